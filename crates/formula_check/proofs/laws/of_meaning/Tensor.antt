-- A formula is right exactly if its coefficients are the map's: the coordinates of a row's form are its coefficients, and those of the target's form
-- tell the terms.
--   sum_first           a sum is its first term and the rest
--   row_coordinate      coordinate i * m + j of a row's form is the coefficient of a_i b_j
--   right_coefficients  the theorem
-- Assumes nothing.
use Rattle.std.specs.Prelude.{◌≡◌, refl, ◌↔◌, Bool, true, false, ◌&&◌, ℕ, zero, suc, ◌+◌, ◌*◌, ◌<◌, ◌≤◌, length, get_or, Some}
use Rattle.std.proofs.Math.Path.{sym, ap, ap₂}
use Rattle.std.proofs.Common.{◌∙◌, add-zero, add-suc, suc-add, zero-add, arith}
use mathlib.Core.List.{List, [], ◌∷◌}
use Rattle.linear.specs.Bit.{bit, xor_b}
use Rattle.linear.specs.Word.{word, scale_w}
use Rattle.linear.specs.laws.Bit.{bit_of_xor, bit_zero}
use Rattle.linear.specs.laws.Finite.{bit_law}
use Rattle.kinds.specs.Kinds.{is_list}
use Rattle.kinds.specs.Sizes.{sizes}
use Rattle.kinds.specs.laws.Sizes.{sizes_bounds}
use Rattle.kinds.specs.declared.Shape.{Shape}
use Rattle.forms.specs.Row.{row_form}
use Rattle.forms.specs.products.Product.{product_form}
use Rattle.forms.specs.products.laws.Product.{product_coordinate}
use Rattle.maps.specs.Textbook.{sum_to}
use Rattle.maps.specs.Target.{target_form}
use Rattle.maps.specs.Meaning.{target_below}
use Rattle.maps.specs.laws.Sum.{sum_same, sum_none}
use Rattle.maps.specs.laws.Target.{target_coordinate}
use Rattle.maps.specs.laws.Value.{forms_same}
use Rattle.formula_check.specs.sums.Sums.{product_forms}
use Rattle.formula_check.specs.meaning.Meaning.{Right}
use Rattle.formula_check.specs.meaning.Tensor.{tensor, Coefficients}
use Rattle.formula_check.proofs.laws.of_meaning.Meaning.{row_below, equal_agrees, agrees_equal}

xor_assoc : (a b c : Bool) → xor_b (xor_b a b) c ≡ xor_b a (xor_b b c)
xor_assoc = bit_law (λ a b c. xor_b (xor_b a b) c) (λ a b c. xor_b a (xor_b b c)) refl

xor_none : (a : Bool) → a ≡ xor_b a false
xor_none true = refl
xor_none false = refl

sum_first : (n : ℕ) (f : ℕ → Bool) → sum_to (suc n) f ≡ xor_b (f 0) (sum_to n (λ l. f (suc l)))
unfolding sum_to
sum_first zero f = xor_none (f 0)
sum_first (suc n) f = ap (λ (x : Bool). xor_b x (f (suc n))) (sum_first n f) ∙ xor_assoc (f 0) (sum_to n (λ l. f (suc l))) (f (suc n))

-- ---- the coordinates of a row's form
last_false : (a : Bool) → a && false ≡ false
last_false true = refl
last_false false = refl

turn_three : (c x y : Bool) → c && (x && y) ≡ x && (y && c)
turn_three = bit_law (λ c x y. c && (x && y)) (λ c x y. x && (y && c)) refl

module _ (n m i j : ℕ) (h : n * m ≤ 64) (I : i < n) (J : j < m) where
  -- the term of product l, numbered k + l
  abbrev term : (xs ys : List ℕ) (row k : ℕ) → ℕ → Bool
  term xs ys row k l = bit (get_or xs l 0) i && (bit (get_or ys l 0) j && bit row (k + l))

  first_term : (x y row k : ℕ) → bit (scale_w (bit row k) (product_form n m x y)) (i * m + j) ≡ bit x i && (bit y j && bit row (k + 0))
  first_term x y row k =
      word.coord_scale (bit row k) (product_form n m x y) (i * m + j)
      ∙ ap₂ ◌&&◌ (ap (bit row) (sym (add-zero k))) (product_coordinate n m x y i j h I J) ∙ turn_three (bit row (k + 0)) (bit x i) (bit y j)

  from_here : (xs ys : List ℕ) (row k : ℕ) → bit (row_form (product_forms n m xs ys) row k) (i * m + j) ≡ sum_to (length xs) (term xs ys row k)
  unfolding row_form product_forms
  from_here [] ys row k = bit_zero (i * m + j) ∙ sym (sum_none 0 (term [] ys row k) (λ l q. absurd (omega arith)))
  from_here (x ∷ xs) [] row k =
      bit_zero (i * m + j)
      ∙ sym (sum_none (length (x ∷ xs)) (term (x ∷ xs) [] row k)
      (λ l q. ap (λ (z : Bool). bit (get_or (x ∷ xs) l 0) i && (z && bit row (k + l))) (bit_zero j) ∙ last_false (bit (get_or (x ∷ xs) l 0) i)))
  from_here (x ∷ xs) (y ∷ ys) row k =
      bit_of_xor (scale_w (bit row k) (product_form n m x y)) (row_form (product_forms n m xs ys) row (suc k)) (i * m + j)
      ∙ ap₂ xor_b (first_term x y row k)
      (from_here xs ys row (suc k) ∙ sum_same (length xs) (term xs ys row (suc k)) (λ l. term (x ∷ xs) (y ∷ ys) row k (suc l)) (λ l q. shifted l))
      ∙ sym (sum_first (length xs) (term (x ∷ xs) (y ∷ ys) row k))
    where
      shifted : (l : ℕ) → term xs ys row (suc k) l ≡ term (x ∷ xs) (y ∷ ys) row k (suc l)
      shifted l = ap (λ (s : ℕ). bit (get_or xs l 0) i && (bit (get_or ys l 0) j && bit row s)) (suc-add k l ∙ sym (add-suc k l))

  pub row_coordinate : (xs ys : List ℕ) (row : ℕ) → bit (row_form (product_forms n m xs ys) row 0) (i * m + j) ≡ tensor xs ys row i j
  row_coordinate xs ys row =
      from_here xs ys row 0
      ∙ sum_same (length xs) (term xs ys row 0) (λ l. bit (get_or xs l 0) i && (bit (get_or ys l 0) j && bit row l))
      (λ l q. ap (λ (s : ℕ). bit (get_or xs l 0) i && (bit (get_or ys l 0) j && bit row s)) (zero-add l))

-- ---- the theorem
module _ (shape : Shape) (n m : ℕ) (xs ys rows : List ℕ) (sized : sizes shape ≡ Some (n, m, length rows)) (map : is_list shape.kind ≡ false) where
  room : n * m ≤ 64
  room = (sizes_bounds shape (n, m, length rows) sized).fits.product

  pub right_coefficients : Right shape n m xs ys rows ↔ Coefficients shape n m xs ys rows
  right_coefficients = (to, from)
    where
      to : Right shape n m xs ys rows → Coefficients shape n m xs ys rows
      to R t i j h I J =
          sym (row_coordinate n m i j room I J xs ys (get_or rows t 0))
          ∙ ap (λ (f : ℕ). bit f (i * m + j)) (agrees_equal shape n m xs ys rows sized map t h (R t h)) ∙ target_coordinate shape n m t i j I J

      from : Coefficients shape n m xs ys rows → Right shape n m xs ys rows
      from C t h =
          equal_agrees shape n m xs ys rows sized map t h
          (forms_same n m (row_form (product_forms n m xs ys) (get_or rows t 0) 0) (target_form shape n m t) (row_below n m xs ys (get_or rows t 0) 0)
          (target_below shape n m t)
          (λ i j I J. row_coordinate n m i j room I J xs ys (get_or rows t 0) ∙ C t i j h I J ∙ sym (target_coordinate shape n m t i j I J)))
