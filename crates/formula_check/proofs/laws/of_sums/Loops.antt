-- What a turn of each loop does, over plain lists: the list from i on is the element at i and the list from i + 1 on.
--   adders_next, adders_end                    adders
--   forms_next, forms_end                      the forms of the products
--   row_set, row_unset, row_end                the form of a row
-- Assumes nothing.
use Rattle.std.specs.Prelude.{◌≡◌, Bool, ℕ, ◌+◌, ◌-◌, ◌/◌, ◌^◌, ◌<◌, ◌≤◌, length, get_or, take, drop, set}
use Rattle.std.proofs.Math.Path.{sym, ap}
use Rattle.std.proofs.Common.{ap₂, ◌∙◌, add-one, arith, drop_of_length-le, take-suc-set}
use mathlib.Core.List.{List, [], ◌∷◌, ◌++◌, append_assoc, append-nil}
use Rattle.std.specs.Int.Bits.{bit_xor, bit_and, xor_zero_r, xor_zero_l}
use Rattle.linear.specs.Bit.{bit}
use Rattle.linear.specs.Word.{word, scale_w}
use Rattle.linear.specs.laws.Space.{add_assoc}
use Rattle.linear.proofs.laws.Shift.{bit_set, bit_unset}
use Rattle.words.specs.laws.Scan.{next}
use Rattle.forms.specs.products.Product.{product_form}
use Rattle.forms.specs.Weight.{weight}
use Rattle.forms.specs.Row.{row_form}
use Rattle.formula_check.specs.sums.Sums.{product_forms, adders_of}

-- ---- adders
pub adders_next : (xs : List ℕ) (i s s' A : ℕ) → i < length xs → s + adders_of (drop i xs) ≡ A → s' ≡ s + (weight 64 (get_or xs i 0) - 1)
    → s' + adders_of (drop (i + 1) xs) ≡ A
unfolding adders_of
adders_next xs i s s' A h inv e = let n = ap adders_of (next xs i h) in omega arith

pub adders_end : (xs : List ℕ) (i s A : ℕ) → length xs ≤ i → s + adders_of (drop i xs) ≡ A → s ≡ A
unfolding adders_of
adders_end xs i s A h inv = let n = ap adders_of (drop_of_length-le xs h) in omega arith

-- ---- the forms of the products
pub forms_next : (n m : ℕ) (xs ys : List ℕ) (i : ℕ) (out : List ℕ) (F : List ℕ) → i < length xs → i < length ys → i < length out
    → take i out ++ product_forms n m (drop i xs) (drop i ys) ≡ F
    → take (i + 1) (set out i (product_form n m (get_or xs i 0) (get_or ys i 0))) ++ product_forms n m (drop (i + 1) xs) (drop (i + 1) ys) ≡ F
unfolding product_forms
forms_next n m xs ys i out F hx hy ho inv =
    ap (λ (l : List ℕ). l ++ rest) (ap (λ (k : ℕ). take k (set out i f)) (add-one i) ∙ take-suc-set out i f ho)
    ∙ append_assoc (take i out) (f ∷ []) rest
    ∙ ap (λ (l : List ℕ). take i out ++ l) (sym (ap₂ (product_forms n m) (next xs i hx) (next ys i hy))) ∙ inv
  where
    f : ℕ
    f = product_form n m (get_or xs i 0) (get_or ys i 0)

    rest : List ℕ
    rest = product_forms n m (drop (i + 1) xs) (drop (i + 1) ys)

pub forms_end : (n m : ℕ) (xs ys : List ℕ) (i : ℕ) (out F : List ℕ) → length xs ≤ i → take i out ++ product_forms n m (drop i xs) (drop i ys) ≡ F → take i out ≡ F
unfolding product_forms
forms_end n m xs ys i out F h inv =
    sym (append-nil (take i out)) ∙ ap (λ (l : List ℕ). take i out ++ l) (sym (ap (λ (l : List ℕ). product_forms n m l (drop i ys)) (drop_of_length-le xs h))) ∙ inv

-- ---- the form of a row
module _ (fs : List ℕ) (row i s R : ℕ) (h : i < length fs) (inv : bit_xor s (row_form (drop i fs) row i) ≡ R) where
  split : bit_xor s (bit_xor (scale_w (bit row i) (get_or fs i 0)) (row_form (drop (i + 1) fs) row (i + 1))) ≡ R
  unfolding row_form
  split =
      ap (λ (k : ℕ). bit_xor s (bit_xor (scale_w (bit row i) (get_or fs i 0)) (row_form (drop (i + 1) fs) row k))) (add-one i)
      ∙ sym (ap (λ (l : List ℕ). bit_xor s (row_form l row i)) (next fs i h)) ∙ inv

  pub row_set : bit_and (row / 2 ^ i) 1 ≡ 1 → bit_xor (bit_xor s (get_or fs i 0)) (row_form (drop (i + 1) fs) row (i + 1)) ≡ R
  row_set e =
      add_assoc word s (get_or fs i 0) (row_form (drop (i + 1) fs) row (i + 1))
      ∙ sym (ap (λ (t : Bool). bit_xor s (bit_xor (scale_w t (get_or fs i 0)) (row_form (drop (i + 1) fs) row (i + 1)))) (bit_set row i e)) ∙ split

  pub row_unset : (bit_and (row / 2 ^ i) 1 ≡ 1 → ⊥) → bit_xor s (row_form (drop (i + 1) fs) row (i + 1)) ≡ R
  row_unset e =
      ap (bit_xor s) (sym (xor_zero_l (row_form (drop (i + 1) fs) row (i + 1))))
      ∙ sym (ap (λ (t : Bool). bit_xor s (bit_xor (scale_w t (get_or fs i 0)) (row_form (drop (i + 1) fs) row (i + 1)))) (bit_unset row i e)) ∙ split

pub row_end : (fs : List ℕ) (row i s R : ℕ) → length fs ≤ i → bit_xor s (row_form (drop i fs) row i) ≡ R → s ≡ R
unfolding row_form
row_end fs row i s R h inv = sym (xor_zero_r s) ∙ sym (ap (λ (l : List ℕ). bit_xor s (row_form l row i)) (drop_of_length-le fs h)) ∙ inv
