-- The look-up of an entry in a listing, test by test.
-- Assumes nothing.
use Rattle.std.specs.Prelude.{◌≡◌, Bool, true, false, ◌&&◌, cond, List, [], ◌∷◌, ℕ, zero, suc, ◌+◌, ◌-◌, ◌*◌, ◌/◌, ◌<◌, ◌≤◌, length, take, drop, ltb, leb}
use Rattle.std.proofs.Math.Path.{refl}
use Rattle.std.proofs.Common.{sym, ap, ap₂, ◌∙◌, subst, arith, div-lt_iff_lt-mul, le-div_iff_mul-le, suc-mul, drop-drop, lt-ltb, le-ltb, le-leb}
use Rattle.std.proofs.lemmas.Bool.{lt-leb}
use Rattle.records.specs.Length.{record_length}
use Rattle.records.specs.lookup.Lookup.{lookup}

-- ---- a part cut in two
take_nil : (m : ℕ) → take {A = ℕ} m [] ≡ []
take_nil zero = refl
take_nil (suc m) = refl

cut_in : (n m s : ℕ) (l : List ℕ) → s ≡ n + m → (take n (take s l) ≡ take n l) × (drop n (take s l) ≡ take m (drop n l))
cut_in zero m s l e = (refl, ap (λ (x : ℕ). take x l) (let z : s ≡ m = omega arith in z))
cut_in (suc n) m zero l e = absurd (omega arith)
cut_in (suc n) m (suc s) [] e = (refl, sym (take_nil m))
cut_in (suc n) m (suc s) (x ∷ l) e = let p = cut_in n m s l (omega arith) in (ap (x ∷◌) p.0, p.1)

pub drop_none : (xs : List ℕ) (n : ℕ) → length xs ≤ n → [] ≡ drop n xs
drop_none [] zero h = refl
drop_none [] (suc n) h = refl
drop_none (x ∷ xs) zero h = absurd (omega arith)
drop_none (x ∷ xs) (suc n) h = drop_none xs n (omega arith)

module _ (ell k shown number : ℕ) (buffer : List ℕ) where
  abbrev size : ℕ
  size = record_length ell k

  abbrev pick : Bool → Bool → Bool → List ℕ
  pick a b c = cond (a && (b && c)) (take size (drop (number * size) buffer)) []

  is_pick : lookup ell k shown number buffer ≡ pick (ltb number shown) (leb ell k) (leb (number * size + size) (length buffer))
  is_pick = unfold lookup in refl

  none_last : (a b : Bool) → pick a b false ≡ []
  none_last true true = refl
  none_last true false = refl
  none_last false true = refl
  none_last false false = refl

  none_middle : (a c : Bool) → pick a false c ≡ []
  none_middle true c = refl
  none_middle false c = refl

  pub not_shown : shown ≤ number → [] ≡ lookup ell k shown number buffer
  not_shown h = sym (is_pick ∙ ap (λ (a : Bool). pick a (leb ell k) (leb (number * size + size) (length buffer))) (le-ltb number shown h))

  pub below : k < ell → [] ≡ lookup ell k shown number buffer
  below h =
      sym
      (is_pick ∙ ap (λ (b : Bool). pick (ltb number shown) b (leb (number * size + size) (length buffer))) (lt-leb ell k h)
      ∙ none_middle (ltb number shown) (leb (number * size + size) (length buffer)))

  pub past : length buffer < number * size + size → [] ≡ lookup ell k shown number buffer
  past h =
      sym
      (is_pick ∙ ap (pick (ltb number shown) (leb ell k)) (lt-leb (number * size + size) (length buffer) h) ∙ none_last (ltb number shown) (leb ell k))

  pub too_long : length buffer < k → [] ≡ lookup ell k shown number buffer
  too_long h = past (let a : k ≤ number * size + size = omega arith in omega arith)

  pub no_size : size ≡ 0 → [] ≡ lookup ell k shown number buffer
  no_size z = sym (is_pick ∙ both (ltb number shown) (leb ell k) (leb (number * size + size) (length buffer)))
    where
      nothing : take size (drop (number * size) buffer) ≡ []
      nothing = ap (λ (n : ℕ). take n (drop (number * size) buffer)) z

      both : (a b c : Bool) → pick a b c ≡ []
      both true true true = nothing
      both true true false = refl
      both true false c = refl
      both false b c = refl

  pub runs_past : 0 < size → length buffer / size ≤ number → [] ≡ lookup ell k shown number buffer
  runs_past s h = past (let a : length buffer < (number + 1) * size = (div-lt_iff_lt-mul s).0 (let b : length buffer / size < number + 1 = omega arith in b) in more a)
    where
      more : length buffer < (number + 1) * size → length buffer < number * size + size
      more a = subst (λ (x : ℕ). length buffer < x) (ap (λ (n : ℕ). n * size) (let z : number + 1 ≡ suc number = omega arith in z) ∙ suc-mul number size) a

  pub fits_in : 0 < size → number < length buffer / size → number * size + size ≤ length buffer
  fits_in s h = subst (λ (x : ℕ). x ≤ length buffer) (suc-mul number size) ((le-div_iff_mul-le s).0 (let b : suc number ≤ length buffer / size = omega arith in b))

  -- the part of a slice from d to d + n
  part_is : (d n : ℕ) → take (d + n - d) (drop d buffer) ≡ take n (drop d buffer)
  part_is d n = ap (λ (i : ℕ). take i (drop d buffer)) (let z : d + n - d ≡ n = omega arith in z)

  pub held : number < shown → ell ≤ k → number * size + size ≤ length buffer
      → take (number * size + size - number * size) (drop (number * size) buffer) ≡ lookup ell k shown number buffer
  held a b c =
      part_is (number * size) size
      ∙ sym
      (is_pick ∙ ap (λ (x : Bool). pick x (leb ell k) (leb (number * size + size) (length buffer))) (lt-ltb number shown a)
      ∙ ap₂ (pick true) (le-leb ell k b) (le-leb (number * size + size) (length buffer) c))

  -- its two parts, as they stand in the listing
  pub record_parts : number < shown → ell ≤ k → number * size + size ≤ length buffer
      → (take (k - ell) (lookup ell k shown number buffer) ≡ take (k - ell) (drop (number * size) buffer))
      × (drop (k - ell) (lookup ell k shown number buffer) ≡ take k (drop (number * size + (k - ell)) buffer))
  record_parts a b c =
      let l : lookup ell k shown number buffer ≡ take size (drop (number * size) buffer) = sym (held a b c) ∙ part_is (number * size) size in
      let p = cut_in (k - ell) k size (drop (number * size) buffer) refl in
      (ap (take (k - ell)) l ∙ p.0, ap (drop (k - ell)) l ∙ p.1 ∙ ap (take k) (drop-drop (k - ell) (number * size) buffer))
