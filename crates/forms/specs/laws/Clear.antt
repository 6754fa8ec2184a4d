-- A row cleared in a word by one exclusive or and one comparison.
-- lowers, raises: adding a row that is not 0 makes v smaller where v is 1 at the row's lead, and else larger.
-- clear_less, clear-not: `clear` is the exclusive or where that is smaller than v, and else v; for every row, 0 too.
-- reduce_next, reduce-end: the rows from i on are the row at i and those after it; past the last row nothing is left to do.
-- Assumes nothing.
use Rattle.std.specs.Prelude.{◌≡◌, ◌≢◌, Bool, true, false, List, ℕ, zero, suc, ◌+◌, ◌*◌, ◌/◌, ◌%◌, ◌^◌, ◌<◌, ◌≤◌, length, get_or, drop}
use Rattle.std.proofs.Math.Path.{refl}
use Rattle.std.proofs.Common.{sym, ap, ap₂, ◌∙◌, subst, true≢false, mod-lt, pow-suc, zero-lt-suc, arith, drop_of_length-le, drop-cons}
use Rattle.std.proofs.Math.Decide.{dec_lt, ℕ_discrete}
use Rattle.std.proofs.Math.Nat.{div-eq_of_lt-le}
use Rattle.std.specs.Int.Bits.{bit_xor, differ, xor_step, xor_zero_l, xor_zero_r}
use Rattle.std.proofs.lemmas.Nat.{xor_comm, xor_shr}
use Rattle.std.proofs.Math.Pow.{shr_mono}
use Rattle.linear.specs.Basis.{clear, reduce}
use Rattle.linear.specs.Bit.{bit, bit_of, top}
use Rattle.linear.specs.Word.{word, scale_w}
use Rattle.linear.specs.laws.Bit.{top_span}
use Rattle.linear.proofs.laws.Reduce.{clear_nul}

-- ---- a number and 1
xor_one : (x d : ℕ) → x % 2 ≡ d → bit_xor x 1 ≡ x / 2 * 2 + differ d 1
xor_one x d e =
    xor_step x 1 ∙ ap₂ (λ (h k : ℕ). h * 2 + differ k 1) (xor_zero_r (x / 2)) e

odd_less : (x : ℕ) → bit_of (x % 2) ≡ true → bit_xor x 1 < x
odd_less x = go (x % 2) refl
  where
    go : (d : ℕ) → x % 2 ≡ d → bit_of d ≡ true → bit_xor x 1 < x
    go zero e b = absurd (true≢false (sym b))
    go (suc zero) e b = omega (arith, e, xor_one x 1 e)
    go (suc (suc d)) e b = absurd (omega (arith, e, mod-lt x (zero-lt-suc 1)))

even_more : (x : ℕ) → bit_of (x % 2) ≡ false → x < bit_xor x 1
even_more x = go (x % 2) refl
  where
    go : (d : ℕ) → x % 2 ≡ d → bit_of d ≡ false → x < bit_xor x 1
    go zero e b = omega (arith, e, xor_one x 0 e)
    go (suc d) e b = absurd (true≢false b)

-- ---- a row and v, at the row's lead
shift_less : (t v w : ℕ) → v / 2 ^ t < w / 2 ^ t → v < w
shift_less t v w h = go (dec_lt v w)
  where
    go : Dec (v < w) → v < w
    go (yes l) = l
    go (no n) = let q : w ≤ v = omega arith in absurd (omega (arith, h, shr_mono t q))

module _ (row v : ℕ) (n : row ≢ 0) where
  at_lead : bit_xor v row / 2 ^ top row ≡ bit_xor (v / 2 ^ top row) 1
  at_lead =
      let s = top_span row n in
      let p : 1 * 2 ^ top row ≤ row = omega (arith, s.0) in
      let q : row < (1 + 1) * 2 ^ top row = omega (arith, s.1, pow-suc 2 (top row)) in
      xor_shr v row (top row) ∙ ap (bit_xor (v / 2 ^ top row)) (div-eq_of_lt-le (2 ^ top row) {m = row} p q)

  pub lowers : bit v (top row) ≡ true → bit_xor v row < v
  unfolding bit
  lowers e = shift_less (top row) (bit_xor v row) v (subst (λ (x : ℕ). x < v / 2 ^ top row) (sym at_lead) (odd_less (v / 2 ^ top row) e))

  pub raises : bit v (top row) ≡ false → v < bit_xor v row
  unfolding bit
  raises e = shift_less (top row) v (bit_xor v row) (subst (λ (x : ℕ). v / 2 ^ top row < x) (sym at_lead) (even_more (v / 2 ^ top row) e))

pub clear_less : (row v : ℕ) → bit_xor v row < v → clear word row v ≡ bit_xor v row
clear_less row v h = go (ℕ_discrete row 0)
  where
    set : row ≢ 0 → (s : Bool) → bit v (top row) ≡ s → bit_xor (scale_w s row) v ≡ bit_xor v row
    set n true e = xor_comm row v
    set n false e = absurd (omega (arith, h, raises row v n e))

    go : Dec (row ≡ 0) → clear word row v ≡ bit_xor v row
    go (yes z) = absurd (omega (arith, h, ap (bit_xor v) z ∙ xor_zero_r v))
    go (no n) = unfold clear in set n (bit v (top row)) refl

pub clear_not : (row v : ℕ) → v ≤ bit_xor v row → clear word row v ≡ v
clear_not row v h = go (ℕ_discrete row 0)
  where
    unset : row ≢ 0 → (s : Bool) → bit v (top row) ≡ s → bit_xor (scale_w s row) v ≡ v
    unset n true e = absurd (omega (arith, h, lowers row v n e))
    unset n false e = xor_zero_l v

    go : Dec (row ≡ 0) → clear word row v ≡ v
    go (yes z) = ap (λ (r : ℕ). clear word r v) z ∙ clear_nul word v
    go (no n) = unfold clear in unset n (bit v (top row)) refl

-- ---- the rows, one after the other
pub reduce_next : (rs : List ℕ) (i x : ℕ) → i < length rs → reduce word (drop i rs) x ≡ reduce word (drop (suc i) rs) (clear word (get_or rs i 0) x)
unfolding reduce
reduce_next rs i x h = ap (λ (l : List ℕ). reduce word l x) (drop-cons rs i 0 h)

pub reduce_end : (rs : List ℕ) (i x : ℕ) → length rs ≤ i → reduce word (drop i rs) x ≡ x
unfolding reduce
reduce_end rs i x h = ap (λ (l : List ℕ). reduce word l x) (drop_of_length-le rs h)
