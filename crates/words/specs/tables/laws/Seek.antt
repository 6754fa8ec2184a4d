-- The slot of a value in a table of `size` slots.
--   either       a number is another one, or is not
--   apart        a slot in use is as it was where a free one is written; in_table: it is one of the table
--   slot_owner   a number in the slot of a value has the value
--   slot_kept    the slot of a value stays where a free slot is written, unless it is free itself
--   slot_own     and it stays where a number of the value is written into it
--   Seeking                  == the search goes on from the slot q, with t left to try
--   seek_more, seek_free, seek_found, seek_none   one slot further, and at its ends
-- Assumes nothing.
use Rattle.std.specs.Prelude.{◌≡◌, ◌≢◌, Bool, true, false, ◌||◌, List, ℕ, zero, suc, ◌+◌, ◌-◌, ◌<◌, ◌≤◌, eqb, length, get_or, set}
use Rattle.std.proofs.Math.Path.{refl, ap, subst}
use Rattle.std.proofs.Common.{sym, ◌∙◌, arith, get_or-set_same, get_or-set_other, eq-eqb, ne_eqb}
use Rattle.std.proofs.Math.Bool.{cond}
use Rattle.std.proofs.Math.Decide.{ℕ_discrete}
use Rattle.std.proofs.Math.ListN.{get_or-eq_default}
use Rattle.linear.specs.Word.{is_zero}
use Rattle.words.specs.tables.Table.{following, slot_from, tries}

pub either : {P : Type 0} (b c : ℕ) → (c ≡ b → P) → (c ≢ b → P) → P
either {P} b c f g = go (ℕ_discrete c b)
  where
    go : Dec (c ≡ b) → P
    go (yes e) = f e
    go (no n) = g n

free_test : (x : ℕ) (t : Bool) → x ≡ 0 → is_zero x || t ≡ true
free_test zero t e = refl
free_test (suc x) t e = absurd (omega arith)

found_test : (x : ℕ) (t : Bool) → t ≡ true → is_zero x || t ≡ true
found_test zero t e = refl
found_test (suc x) t e = e

more_test : (x : ℕ) (t : Bool) → x ≢ 0 → t ≡ false → is_zero x || t ≡ false
more_test zero t n e = absurd (n refl)
more_test (suc x) t n e = e

module _ (size : ℕ) where
  pub following_below : (q : ℕ) → q < size → following size q < size
  unfolding following
  following_below q l =
      either size (q + 1) (λ e. subst (λ (t : Bool). cond t 0 (q + 1) < size) (sym (eq-eqb (q + 1) size e)) (omega arith))
      (λ n. subst (λ (t : Bool). cond t 0 (q + 1) < size) (sym (ne_eqb (q + 1) size n)) (omega arith))

  pub in_table : (slots : List ℕ) → length slots ≡ size → (q : ℕ) → get_or slots q 0 ≢ 0 → q < size
  in_table slots whole q n = either 0 (size - q) (λ z. absurd (n (get_or-eq_default slots 0 {n = q} (omega arith)))) (λ m. omega arith)

  -- ---- one slot
  module _ (slots d : List ℕ) (v : ℕ) where
    step_free : (t q : ℕ) → get_or slots q 0 ≡ 0 → slot_from size (suc t) q slots d v ≡ q
    unfolding slot_from
    step_free t q e =
        ap (λ (b : Bool). cond b q (slot_from size t (following size q) slots d v)) (free_test (get_or slots q 0) (eqb (get_or d (get_or slots q 0 - 1) 0) v) e)

    step_found : (t q : ℕ) → get_or d (get_or slots q 0 - 1) 0 ≡ v → slot_from size (suc t) q slots d v ≡ q
    unfolding slot_from
    step_found t q e =
        ap (λ (b : Bool). cond b q (slot_from size t (following size q) slots d v))
        (found_test (get_or slots q 0) (eqb (get_or d (get_or slots q 0 - 1) 0) v) (eq-eqb (get_or d (get_or slots q 0 - 1) 0) v e))

    step_more : (t q : ℕ) → get_or slots q 0 ≢ 0 → get_or d (get_or slots q 0 - 1) 0 ≢ v
        → slot_from size (suc t) q slots d v ≡ slot_from size t (following size q) slots d v
    unfolding slot_from
    step_more t q n m =
        ap (λ (b : Bool). cond b q (slot_from size t (following size q) slots d v))
        (more_test (get_or slots q 0) (eqb (get_or d (get_or slots q 0 - 1) 0) v) n (ne_eqb (get_or d (get_or slots q 0 - 1) 0) v m))

    step_out : (q : ℕ) → slot_from size 0 q slots d v ≡ size
    unfolding slot_from
    step_out q = refl

    -- free, of this value, or of another
    three : {P : Type 0} (q : ℕ) → (get_or slots q 0 ≡ 0 → P) → (get_or slots q 0 ≢ 0 → get_or d (get_or slots q 0 - 1) 0 ≡ v → P)
        → (get_or slots q 0 ≢ 0 → get_or d (get_or slots q 0 - 1) 0 ≢ v → P) → P
    three q f g h = either 0 (get_or slots q 0) f (λ n. either v (get_or d (get_or slots q 0 - 1) 0) (g n) (h n))

  past : (slots : List ℕ) → length slots ≡ size → get_or slots size 0 ≡ 0
  past slots whole = get_or-eq_default slots 0 {n = size} (omega arith)

  module _ (slots d : List ℕ) (v : ℕ) (whole : length slots ≡ size) where
    pub slot_owner : (t q f : ℕ) → get_or slots (slot_from size t q slots d v) 0 ≡ suc f → get_or d f 0 ≡ v
    slot_owner zero q f e =
        let z : suc f ≡ 0 = sym e ∙ ap (λ (r : ℕ). get_or slots r 0) (step_out slots d v q) ∙ past slots whole in
        absurd (omega arith)
    slot_owner (suc t) q f e =
        let ih = slot_owner t (following size q) f in
        three slots d v q
        (λ z. let y : suc f ≡ 0 = sym e ∙ ap (λ (r : ℕ). get_or slots r 0) (step_free slots d v t q z) ∙ z in absurd (omega arith))
        (λ n m. let y : get_or slots q 0 ≡ suc f = sym (ap (λ (r : ℕ). get_or slots r 0) (step_found slots d v t q m)) ∙ e in
        ap (λ (k : ℕ). get_or d k 0) (let k : f ≡ get_or slots q 0 - 1 = omega arith in k) ∙ m)
        (λ n m. ih (sym (ap (λ (r : ℕ). get_or slots r 0) (step_more slots d v t q n m)) ∙ e))

-- ---- a free slot is written
pub apart : (slots : List ℕ) (b x : ℕ) → get_or slots b 0 ≡ 0 → (q : ℕ) → get_or slots q 0 ≢ 0 → get_or (set slots b x) q 0 ≡ get_or slots q 0
apart slots b x free q n = get_or-set_other slots b q x 0 (λ e. n (ap (λ (k : ℕ). get_or slots k 0) e ∙ free))

module _ (size : ℕ) (slots : List ℕ) (b x : ℕ) (free : get_or slots b 0 ≡ 0) (d : List ℕ) (v : ℕ) where
  same : (q : ℕ) → get_or slots q 0 ≢ 0 → get_or d (get_or (set slots b x) q 0 - 1) 0 ≡ get_or d (get_or slots q 0 - 1) 0
  same q n = ap (λ (k : ℕ). get_or d (k - 1) 0) (apart slots b x free q n)

  further : (t q : ℕ) → get_or slots q 0 ≢ 0 → get_or d (get_or slots q 0 - 1) 0 ≢ v
      → slot_from size (suc t) q (set slots b x) d v ≡ slot_from size t (following size q) (set slots b x) d v
  further t q n m = step_more size (set slots b x) d v t q (λ z. n (sym (apart slots b x free q n) ∙ z)) (λ y. m (sym (same q n) ∙ y))

  pub slot_kept : (t q : ℕ) → q < size → (slot_from size t q slots d v < size → get_or slots (slot_from size t q slots d v) 0 ≢ 0)
      → slot_from size t q (set slots b x) d v ≡ slot_from size t q slots d v
  slot_kept zero q l h = step_out size (set slots b x) d v q ∙ sym (step_out size slots d v q)
  slot_kept (suc t) q l h =
      let ih = slot_kept t (following size q) (following_below size q l) in
      three size slots d v q
      (λ z. absurd
      (h (subst (λ (r : ℕ). r < size) (sym (step_free size slots d v t q z)) l) (ap (λ (r : ℕ). get_or slots r 0) (step_free size slots d v t q z) ∙ z)))
      (λ n m. step_found size (set slots b x) d v t q (same q n ∙ m) ∙ sym (step_found size slots d v t q m))
      (λ n m. further t q n m ∙ ih (subst (λ (r : ℕ). r < size → get_or slots r 0 ≢ 0) (step_more size slots d v t q n m) h)
      ∙ sym (step_more size slots d v t q n m))

  module _ (within : b < length slots) (inside : b < size) (own : get_or d (x - 1) 0 ≡ v) where
    pub slot_own : (t q : ℕ) → slot_from size t q slots d v ≡ b → slot_from size t q (set slots b x) d v ≡ b
    slot_own zero q e = let z : ◌≡◌ {A = ℕ} size b = sym (step_out size slots d v q) ∙ e in absurd (omega arith)
    slot_own (suc t) q e =
        let ih = slot_own t (following size q) in
        three size slots d v q
        (λ z. let p : q ≡ b = sym (step_free size slots d v t q z) ∙ e in
        step_found size (set slots b x) d v t q
        (ap (λ (k : ℕ). get_or d (k - 1) 0) (ap (λ (k : ℕ). get_or (set slots b x) k 0) p ∙ get_or-set_same slots b x 0 within) ∙ own) ∙ p)
        (λ n m. absurd (n (ap (λ (k : ℕ). get_or slots k 0) (sym (step_found size slots d v t q m) ∙ e) ∙ free)))
        (λ n m. further t q n m ∙ ih (sym (step_more size slots d v t q n m) ∙ e))

-- ---- the search
module _ (slots d : List ℕ) (from x : ℕ) where
  pub record Seeking (q t : ℕ) : Type 0 where
    pub same : slot_from (length slots) t q slots d x ≡ slot_from (length slots) tries from slots d x
    pub inside : q < length slots

  module _ (q t : ℕ) (S : Seeking q t) (more : 0 < t) where
    -- what is left to try, as a successor
    left : slot_from (length slots) (suc (t - 1)) q slots d x ≡ slot_from (length slots) tries from slots d x
    left = ap (λ (k : ℕ). slot_from (length slots) k q slots d x) (let e : suc (t - 1) ≡ t = omega arith in e) ∙ S.same

    pub seek_more : get_or slots q 0 ≢ 0 → get_or d (get_or slots q 0 - 1) 0 ≢ x → (p : ℕ) → p ≡ following (length slots) q → Seeking p (t - 1)
    seek_more n m p e =
        record {
          same = ap (λ (k : ℕ). slot_from (length slots) (t - 1) k slots d x) e ∙ sym (step_more (length slots) slots d x (t - 1) q n m) ∙ left;
          inside = subst (λ (k : ℕ). k < length slots) (sym e) (following_below (length slots) q S.inside);
        }

    pub seek_free : get_or slots q 0 ≡ 0 → (q ≡ slot_from (length slots) tries from slots d x) × (q ≤ length slots)
    seek_free e = (sym (step_free (length slots) slots d x (t - 1) q e) ∙ left, omega (arith, S.inside))

    pub seek_found : get_or d (get_or slots q 0 - 1) 0 ≡ x → (q ≡ slot_from (length slots) tries from slots d x) × (q ≤ length slots)
    seek_found e = (sym (step_found (length slots) slots d x (t - 1) q e) ∙ left, omega (arith, S.inside))

  pub seek_none : (q t : ℕ) → Seeking q t → t ≤ 0
      → (length slots ≡ slot_from (length slots) tries from slots d x) × (length slots ≤ length slots)
  seek_none q t S l =
      let e : 0 ≡ t = omega arith in
      (sym (step_out (length slots) slots d x q) ∙ ap (λ (k : ℕ). slot_from (length slots) k q slots d x) e ∙ S.same, omega arith)
