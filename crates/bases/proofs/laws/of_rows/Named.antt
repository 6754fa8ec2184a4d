-- Numbers named by a mask, and the sum of their generators.
--   named_passed    a number that is named is one of the list
--   named_rising    what is named of a rising list rises
--   named_length    and is no longer than the list
--   named_sum       the generators named sum to what the mask says of them
--   named_bit       of a rising list the number at place i is named exactly if bit i of the mask is 1
--   named_of        every rising list of numbers out of a rising list is what some mask names of it
-- Assumes nothing.
use Rattle.std.specs.Prelude.{◌≡◌, refl, ◌↔◌, Bool, true, false, cond, ℕ, zero, suc, ◌+◌, ◌*◌, ◌^◌, ◌<◌, ◌≤◌, length, get_or}
use Rattle.std.proofs.Common.{sym, ap, ap₂, ◌∙◌, subst, ⊎_elim, true≢false, arith, zero-add}
use mathlib.Core.List.{List, [], ◌∷◌, Memᴰ}
use Rattle.std.proofs.Math.Nat.{pow-succ'}
use Rattle.std.proofs.Math.Decide.{ℕ_discrete}
use Rattle.std.specs.Int.Bits.{bit_xor, xor_zero_l}
use Rattle.linear.specs.Bit.{bit}
use Rattle.linear.specs.Order.{Rising}
use Rattle.linear.specs.Entry.{chosen, generator}
use Rattle.linear.specs.Word.{word, scale_w}
use Rattle.linear.proofs.laws.Order.{rising_from, rising_mem, mem_get_d}
use Rattle.linear.specs.laws.Span.{mem_cons}
use Rattle.forms.specs.Row.{row_form}
use Rattle.bases.specs.rows.Terms.{named, sum_of_forms}
use Rattle.bases.specs.rows.Rows.{row_bit}
use Rattle.bases.specs.rows.laws.Rows.{low, high}

pub named_passed : (es : List ℕ) (row k e : ℕ) → Memᴰ e (named es row k) → Memᴰ e es
unfolding named
named_passed [] row k = λ e m. absurd (mathlib.Core.List.Memᴰ.not-nil m)
named_passed (x ∷ es) row k = go (bit row k) (named_passed es row (suc k))
  where
    go : (t : Bool) → ((e : ℕ) → Memᴰ e (named es row (suc k)) → Memᴰ e es)
        → (e : ℕ) → Memᴰ e (cond t (x ∷ named es row (suc k)) (named es row (suc k))) → Memᴰ e (x ∷ es)
    go true ih = mem_cons {P = λ e. Memᴰ e (x ∷ es)} (mathlib.Core.List.Memᴰ.head refl) (λ e m. mathlib.Core.List.Memᴰ.tail (ih e m))
    go false ih = λ e m. mathlib.Core.List.Memᴰ.tail (ih e m)

pub named_rising : (lo hi : ℕ) (es : List ℕ) (row k : ℕ) → Rising lo hi es → Rising lo hi (named es row k)
unfolding named
named_rising lo hi [] row k r = tt
named_rising lo hi (x ∷ es) row k r = go (bit row k) (named_rising (suc x) hi es row (suc k) r.2)
  where
    go : (t : Bool) → Rising (suc x) hi (named es row (suc k)) → Rising lo hi (cond t (x ∷ named es row (suc k)) (named es row (suc k)))
    go true ih = (r.0, r.1, ih)
    go false ih = rising_from lo (suc x) hi (named es row (suc k)) (let a : lo ≤ x = r.0 in omega arith) ih

pub named_length : (es : List ℕ) (row k : ℕ) → length (named es row k) ≤ length es
unfolding named
named_length [] row k = omega arith
named_length (x ∷ es) row k = go (bit row k) (named_length es row (suc k))
  where
    go : (t : Bool) → length (named es row (suc k)) ≤ length es → length (cond t (x ∷ named es row (suc k)) (named es row (suc k))) ≤ suc (length es)
    go true ih = omega arith
    go false ih = omega arith

pub named_sum : (gens es : List ℕ) (row k : ℕ) → sum_of_forms (chosen word gens (named es row k)) ≡ row_form (chosen word gens es) row k
unfolding named sum_of_forms chosen row_form
named_sum gens [] row k = refl
named_sum gens (x ∷ es) row k = go (bit row k) (named_sum gens es row (suc k))
  where
    go : (t : Bool) → sum_of_forms (chosen word gens (named es row (suc k))) ≡ row_form (chosen word gens es) row (suc k)
        → sum_of_forms (chosen word gens (cond t (x ∷ named es row (suc k)) (named es row (suc k))))
        ≡ bit_xor (scale_w t (generator word gens x)) (row_form (chosen word gens es) row (suc k))
    go true ih = ap (bit_xor (generator word gens x)) ih
    go false ih = ih ∙ sym (xor_zero_l (row_form (chosen word gens es) row (suc k)))

-- a number before all of a rising list is none of it
before_none : (x hi : ℕ) (es : List ℕ) → Rising (suc x) hi es → Memᴰ x es → ⊥
before_none x hi es r m = let a : suc x ≤ x = (rising_mem (suc x) hi es r x m).0 in omega arith

-- ---- bit i of the mask and the number at place i
pub named_bit : (lo hi : ℕ) (es : List ℕ) (row k i : ℕ) → Rising lo hi es → i < length es → (bit row (i + k) ≡ true) ↔ Memᴰ (get_or es i 0) (named es row k)
unfolding named
named_bit lo hi [] row k i r l = absurd (omega arith)
named_bit lo hi (x ∷ es) row k zero r l =
    subst (λ (n : ℕ). (bit row n ≡ true) ↔ Memᴰ x (cond (bit row k) (x ∷ named es row (suc k)) (named es row (suc k)))) (sym (zero-add k))
    (go (bit row k) refl)
  where
    go : (t : Bool) → bit row k ≡ t → (bit row k ≡ true) ↔ Memᴰ x (cond t (x ∷ named es row (suc k)) (named es row (suc k)))
    go true e = (λ q. mathlib.Core.List.Memᴰ.head refl, λ m. e)
    go false e = (
      λ q. absurd (true≢false (sym q ∙ e)),
      λ m. absurd (before_none x hi es r.2 (named_passed es row (suc k) x m)),
    )
named_bit lo hi (x ∷ es) row k (suc i) r l =
    go (bit row k) (subst (λ (n : ℕ). (bit row n ≡ true) ↔ Memᴰ (get_or es i 0) (named es row (suc k))) (let e : i + suc k ≡ suc i + k = omega arith in e)
    (named_bit (suc x) hi es row (suc k) i r.2 (omega arith)))
  where
    go : (t : Bool) → (bit row (suc i + k) ≡ true) ↔ Memᴰ (get_or es i 0) (named es row (suc k))
        → (bit row (suc i + k) ≡ true) ↔ Memᴰ (get_or es i 0) (cond t (x ∷ named es row (suc k)) (named es row (suc k)))
    go true ih = (λ q. mathlib.Core.List.Memᴰ.tail (ih.0 q), λ m. ⊎_elim (λ e. absurd (other e)) ih.1 (mathlib.Core.List.Memᴰ.cases_cons m))
      where
        other : get_or es i 0 ≡ x → ⊥
        other e = before_none x hi es r.2 (subst (λ (y : ℕ). Memᴰ y es) e (mem_get_d es i 0 (omega arith)))
    go false ih = ih

-- ---- every rising list of numbers out of a rising list is named by a mask
shifted : (es : List ℕ) (c : Bool) (m k : ℕ) → named es (row_bit c + 2 * m) (suc k) ≡ named es m k
unfolding named
shifted [] c m k = refl
shifted (x ∷ es) c m k = ap₂ (λ (b : Bool) (r : List ℕ). cond b (x ∷ r) r) (high c m k) (shifted es c m (suc k))

named_cons : (x : ℕ) (es : List ℕ) (c : Bool) (m : ℕ) → named (x ∷ es) (row_bit c + 2 * m) 0 ≡ cond c (x ∷ named es m 0) (named es m 0)
unfolding named
named_cons x es c m = ap₂ (λ (b : Bool) (r : List ℕ). cond b (x ∷ r) r) (low c m) (shifted es c m 0)

pub named_of : (lo hi : ℕ) (es ts : List ℕ) → Rising lo hi es → Rising lo hi ts → ((e : ℕ) → Memᴰ e ts → Memᴰ e es)
    → (row : ℕ) × (row < 2 ^ length es) × (ts ≡ named es row 0)
named_of lo hi [] [] r s h = (0, omega arith, (unfold named in refl))
named_of lo hi [] (t ∷ ts) r s h = absurd (mathlib.Core.List.Memᴰ.not-nil (h t (mathlib.Core.List.Memᴰ.head refl)))
named_of lo hi (x ∷ es) [] r s h = put false (named_of (suc x) hi es [] r.2 tt (λ e m. absurd (mathlib.Core.List.Memᴰ.not-nil m)))
  where
    put : (c : Bool) → (row : ℕ) × (row < 2 ^ length es) × ([] ≡ named es row 0) → (row : ℕ) × (row < 2 ^ suc (length es)) × ([] ≡ named (x ∷ es) row 0)
    put c (m, b, q) = (row_bit false + 2 * m, omega (arith, b, pow-succ' 2 (length es)), q ∙ sym (named_cons x es false m))
named_of lo hi (x ∷ es) (t ∷ ts) r s h = go (ℕ_discrete t x) (named_of (suc x) hi es ts r.2) (named_of (suc x) hi es (t ∷ ts) r.2)
  where
    Named : List ℕ → List ℕ → Type 0
    Named es ts = (row : ℕ) × (row < 2 ^ length es) × (ts ≡ named es row 0)

    -- a member other than x is a later one
    later : (e : ℕ) → (e ≡ x → ⊥) → Memᴰ e (x ∷ es) → Memᴰ e es
    later e n m = ⊎_elim (λ q. absurd (n q)) (λ k. k) (mathlib.Core.List.Memᴰ.cases_cons m)

    put : (c : Bool) (us : List ℕ) → Named es us → Named (x ∷ es) (cond c (x ∷ us) us)
    put true us (m, b, q) =
        (row_bit true + 2 * m, omega (arith, b, pow-succ' 2 (length es)), ap (λ (l : List ℕ). x ∷ l) q ∙ sym (named_cons x es true m))
    put false us (m, b, q) = (row_bit false + 2 * m, omega (arith, b, pow-succ' 2 (length es)), q ∙ sym (named_cons x es false m))

    go : Dec (t ≡ x) → (Rising (suc x) hi ts → ((e : ℕ) → Memᴰ e ts → Memᴰ e es) → Named es ts)
        → (Rising (suc x) hi (t ∷ ts) → ((e : ℕ) → Memᴰ e (t ∷ ts) → Memᴰ e es) → Named es (t ∷ ts)) → Named (x ∷ es) (t ∷ ts)
    go (yes q) ih₁ ih₂ =
        let s' : Rising (suc x) hi ts = subst (λ (y : ℕ). Rising (suc y) hi ts) q s.2 in
        subst (λ (y : ℕ). Named (x ∷ es) (y ∷ ts)) (sym q)
        (put true ts (ih₁ s' (λ e m. later e (λ p. before_none x hi ts s' (subst (λ (y : ℕ). Memᴰ y ts) p m)) (h e (mathlib.Core.List.Memᴰ.tail m)))))
    go (no n) ih₁ ih₂ =
        let a : Memᴰ t es = later t n (h t (mathlib.Core.List.Memᴰ.head refl)) in
        let b : suc x ≤ t = (rising_mem (suc x) hi es r.2 t a).0 in
        let s' : Rising (suc x) hi (t ∷ ts) = (b, s.1, s.2) in
        put false (t ∷ ts) (ih₂ s' (λ e m. later e (λ p. before_none x hi (t ∷ ts) s' (subst (λ (y : ℕ). Memᴰ y (t ∷ ts)) p m)) (h e m)))
