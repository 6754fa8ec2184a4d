-- Reduction by rows with masks: what is left of a form, and what was taken of it.
--   taken_sum     what the mask names and what is left sum to the form
--   taken_below   the mask has as many bits as those of the rows
--   Resting       == the rows from i on leave of x what all leave of v, and with the mask m take what all take
--   resting_start, resting_added, resting_kept, resting_end   no row, a row that is added, one that isn't, and all
-- Assumes nothing.
use Rattle.std.specs.Prelude.{◌≡◌, refl, Bool, true, false, ltb, length, get_or, drop}
use Rattle.std.proofs.Math.Path.{sym, ap, ap₂}
use Rattle.std.proofs.Common.{◌∙◌, subst, add-one, arith, lt-ltb, le-ltb, ltb-true, ltb-false, drop_of_length-le, pow_pos, drop-cons}
use mathlib.Core.List.{List, [], ◌∷◌}
use Prim.Native.Nat.{ℕ, suc, ◌+◌, ◌^◌, ◌<◌, ◌≤◌}
use Rattle.std.specs.Int.Bits.{bit_xor, xor_zero_l, xor_zero_r}
use Rattle.std.proofs.lemmas.Nat.{xor_comm, xor_lt}
use Rattle.linear.specs.Basis.{clear, reduce}
use Rattle.linear.specs.Word.{word, scale_w}
use Rattle.linear.specs.laws.Space.{add_assoc, minus_add}
use Rattle.forms.specs.Row.{row_form}
use Rattle.forms.specs.laws.Clear.{clear_less, clear_not, reduce_next, reduce_end}
use Rattle.bases.specs.rows.Echelon.{taken}
use Rattle.bases.specs.rows.laws.Rows.{row_none, row_xor}

-- ---- what is taken
-- clearing by the comparison that the code makes
clear_test : (b v : ℕ) → clear word b v ≡ bit_xor (scale_w (ltb (bit_xor v b) v) b) v
clear_test b v = go (ltb (bit_xor v b) v) refl
  where
    go : (t : Bool) → ltb (bit_xor v b) v ≡ t → clear word b v ≡ bit_xor (scale_w t b) v
    go true e = clear_less b v (ltb-true (bit_xor v b) v e) ∙ xor_comm v b
    go false e = clear_not b v (ltb-false (bit_xor v b) v e) ∙ sym (xor_zero_l v)

pub taken_sum : (xs B M : List ℕ) → length B ≤ length M → ((j : ℕ) → j < length B → row_form xs (get_or M j 0) 0 ≡ get_or B j 0) → (v : ℕ)
    → bit_xor (row_form xs (taken B M v) 0) (reduce word B v) ≡ v
unfolding taken reduce
taken_sum xs [] M l h v = ap (λ (y : ℕ). bit_xor y v) (row_none xs 0) ∙ xor_zero_l v
taken_sum xs (b ∷ B) [] l h v = absurd (omega arith)
taken_sum xs (b ∷ B) (m ∷ M) l h v =
    ap (λ (y : ℕ). bit_xor y r) (row_xor xs (scale_w t m) T 0 ∙ ap (λ (y : ℕ). bit_xor y (row_form xs T 0)) (part t))
    ∙ add_assoc word (scale_w t b) (row_form xs T 0) r
    ∙ ap (bit_xor (scale_w t b)) (taken_sum xs B M (omega arith) (λ j k. h (suc j) (omega arith)) (clear word b v) ∙ clear_test b v)
    ∙ minus_add word (scale_w t b) v
  where
    t : Bool
    t = ltb (bit_xor v b) v

    T : ℕ
    T = taken B M (clear word b v)

    r : ℕ
    r = reduce word B (clear word b v)

    part : (t : Bool) → row_form xs (scale_w t m) 0 ≡ scale_w t b
    part true = h 0 (omega arith)
    part false = row_none xs 0

pub taken_below : (w : ℕ) (B M : List ℕ) → length B ≤ length M → ((j : ℕ) → j < length B → get_or M j 0 < 2 ^ w) → (v : ℕ) → taken B M v < 2 ^ w
unfolding taken
taken_below w [] M l h v = pow_pos w
taken_below w (b ∷ B) [] l h v = pow_pos w
taken_below w (b ∷ B) (m ∷ M) l h v =
    xor_lt w (scale_w t m) (taken B M (clear word b v)) (part t)
    (taken_below w B M (omega arith) (λ j k. h (suc j) (omega arith)) (clear word b v))
  where
    t : Bool
    t = ltb (bit_xor v b) v

    part : (t : Bool) → scale_w t m < 2 ^ w
    part true = h 0 (omega arith)
    part false = pow_pos w

-- ---- row by row
pub record Resting (B M : List ℕ) (v x m i : ℕ) : Type 0 where
  pub within : i ≤ length B
  pub left : reduce word (drop i B) x ≡ reduce word B v
  pub sum : bit_xor m (taken (drop i B) (drop i M) x) ≡ taken B M v

pub resting_start : (B M : List ℕ) (v : ℕ) → Resting B M v v 0 0
resting_start B M v = record { within = omega arith; left = refl; sum = xor_zero_l (taken B M v) }

module _ (B M : List ℕ) (v x m i : ℕ) (R : Resting B M v x m i) (h : i < length B) (l : length B ≤ length M) where
  abbrev b : ℕ
  b = get_or B i 0

  -- the row's turn, by its test
  turn : (t : Bool) → ltb (bit_xor x b) x ≡ t → (y : ℕ) → y ≡ clear word b x → Resting B M v y (bit_xor m (scale_w t (get_or M i 0))) (i + 1)
  unfolding taken
  turn t e y q =
      record {
        within = omega arith;
        left = ap₂ (λ (k z : ℕ). reduce word (drop k B) z) (add-one i) q ∙ sym (reduce_next B i x h) ∙ R.left;
        sum =
            ap₂ (λ (k z : ℕ). bit_xor (bit_xor m n) (taken (drop k B) (drop k M) z)) (add-one i) q ∙ add_assoc word m n T
            ∙ ap (λ (s : Bool). bit_xor m (bit_xor (scale_w s (get_or M i 0)) T)) (sym e)
            ∙ ap₂ (λ (C N : List ℕ). bit_xor m (taken C N x)) (sym (drop-cons B i 0 h)) (sym (drop-cons M i 0 (omega arith))) ∙ R.sum;
      }
    where
      n : ℕ
      n = scale_w t (get_or M i 0)

      T : ℕ
      T = taken (drop (suc i) B) (drop (suc i) M) (clear word b x)

  pub resting_added : bit_xor x (get_or B i 0) < x → Resting B M v (bit_xor x (get_or B i 0)) (bit_xor m (get_or M i 0)) (i + 1)
  resting_added k = turn true (lt-ltb (bit_xor x b) x k) (bit_xor x b) (sym (clear_less b x k))

  pub resting_kept : x ≤ bit_xor x (get_or B i 0) → Resting B M v x m (i + 1)
  resting_kept k =
      subst (λ (n : ℕ). Resting B M v x n (i + 1)) (xor_zero_r m) (turn false (le-ltb (bit_xor x b) x k) x (sym (clear_not b x k)))

pub resting_end : (B M : List ℕ) (v x m i : ℕ) → Resting B M v x m i → length B ≤ i → (x ≡ reduce word B v) × (m ≡ taken B M v)
unfolding taken
resting_end B M v x m i R h = (
  sym (reduce_end B i x h) ∙ R.left,
  sym (xor_zero_r m) ∙ ap (λ (C : List ℕ). bit_xor m (taken C (drop i M) x)) (sym (drop_of_length-le B h)) ∙ R.sum,
)
