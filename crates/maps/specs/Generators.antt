-- The generators: the products of a nonzero sum of a's and a nonzero sum of b's, numbered from 0.
--   generator_count n m            == how many there are, in n and m variables
--   first_mask m j, second_mask m j == the masks A and B of the generator number j
--   numbered m A B                == the number of the generator with the masks A and B
--   generator_form n m j           == the form of the generator number j
--   list_of f i c                  == f i, f (i + 1), .., c of them
--   generator_forms n m            == the forms of all of them, in order
--   count_of n m                   == their number, if it is at most 4095
-- Document 01: "Except for list, the menu is every product of a nonzero sum of a's and a nonzero sum of b's. With those sums as bit masks A
-- and B, its number is (A − 1) × (2^m − 1) + (B − 1)."
--   number_of_masks   the number of the masks of j is j
--   masks_of_number   the masks of the number of A and B are A and B
--   masks_in_range    the masks of a number below the count are nonzero and have n and m bits
--   number_in_range   the number of such masks is below the count
--   generator_below   a generator has n × m bits
--   length_list_of, at_list_of   a list so made has c members, and f (i + j) at j
--   forms_length, forms_at   the list has as many forms as there are generators, and the form of generator j at j
-- Assumes nothing.
use Rattle.std.specs.Prelude.{◌≡◌, refl, List, [], ◌∷◌, ℕ, zero, suc, ◌+◌, ◌-◌, ◌*◌, ◌/◌, ◌%◌, ◌^◌, ◌<◌, ◌≤◌, leb, length, get_or, Option}
use Rattle.std.proofs.Common.{sym, ap, ap₂, ◌∙◌, subst, div-add-mod', div-lt_iff_lt-mul, mod-lt, mul-zero, add-zero, add-suc, suc-add, zero-add, arith}
use Rattle.std.proofs.Math.Arith.{digits_lt, digits_div, digits_mod}
use Rattle.kinds.specs.Sizes.{given}
use Rattle.forms.specs.products.Product.{product_form}
use Rattle.forms.specs.products.laws.Product.{product_below}
use Rattle.kinds.specs.Limits.{most_generators}

unfoldable pub generator_count : ℕ → ℕ → ℕ
generator_count n m = (2 ^ n - 1) * (2 ^ m - 1)

unfoldable pub first_mask : ℕ → ℕ → ℕ
first_mask m j = j / (2 ^ m - 1) + 1

unfoldable pub second_mask : ℕ → ℕ → ℕ
second_mask m j = j % (2 ^ m - 1) + 1

-- "its number is (A − 1) × (2^m − 1) + (B − 1)"
unfoldable pub numbered : ℕ → ℕ → ℕ → ℕ
numbered m A B = (A - 1) * (2 ^ m - 1) + (B - 1)

unfoldable pub generator_form : ℕ → ℕ → ℕ → ℕ
generator_form n m j = product_form n m (first_mask m j) (second_mask m j)

unfoldable pub list_of : (ℕ → ℕ) → ℕ → ℕ → List ℕ
list_of f i zero = []
list_of f i (suc c) = f i ∷ list_of f (suc i) c

unfoldable pub generator_forms : ℕ → ℕ → List ℕ
generator_forms n m = list_of (generator_form n m) 0 (generator_count n m)

-- refusal 4: "has more than 4,095 forms"
unfoldable pub count_of : ℕ → ℕ → Option ℕ
count_of n m = given (leb (generator_count n m) most_generators) (generator_count n m)

-- the masks of a generator in n and m variables
pub record Masks (n m A B : ℕ) : Type 0 where
  pub some_left : 1 ≤ A
  pub left : A < 2 ^ n
  pub some_right : 1 ≤ B
  pub right : B < 2 ^ m

-- the number of a generator of a menu that is not refused
pub record Numbered (n m j : ℕ) : Type 0 where
  pub below : j < generator_count n m
  pub few : generator_count n m ≤ most_generators

-- a number whose masks the code makes: of b's there are 1 to 12, as in every menu that is not refused
pub record MaskNumber (m j : ℕ) : Type 0 where
  pub some : 1 ≤ m
  pub narrow : m ≤ 12
  pub few : j ≤ most_generators

-- ---- numbers and masks
more_less : (x : ℕ) → x + 1 - 1 ≡ x
more_less x = omega arith

pub number_of_masks : (m j : ℕ) → numbered m (first_mask m j) (second_mask m j) ≡ j
unfolding numbered first_mask second_mask
number_of_masks m j =
    ap₂ (λ (x y : ℕ). x * (2 ^ m - 1) + y) (more_less (j / (2 ^ m - 1))) (more_less (j % (2 ^ m - 1))) ∙ div-add-mod' j (2 ^ m - 1)

pub masks_of_number : (m A B : ℕ) → 1 ≤ A → 1 ≤ B → B < 2 ^ m → (first_mask m (numbered m A B) ≡ A) × (second_mask m (numbered m A B) ≡ B)
unfolding numbered first_mask second_mask
masks_of_number m A B a b c =
    let h : B - 1 < 2 ^ m - 1 = omega arith in
    let e : A - 1 + 1 ≡ A = omega arith in
    let f : B - 1 + 1 ≡ B = omega arith in
    (ap (λ (x : ℕ). x + 1) (digits_div (A - 1) h) ∙ e, ap (λ (x : ℕ). x + 1) (digits_mod (A - 1) h) ∙ f)

pub masks_in_range : (n m j : ℕ) → j < generator_count n m → Masks n m (first_mask m j) (second_mask m j)
unfolding generator_count first_mask second_mask
masks_in_range n m j h =
    record {
      some_left = omega arith;
      left = (let k : j / (2 ^ m - 1) < 2 ^ n - 1 = (div-lt_iff_lt-mul some).1 h in omega arith);
      some_right = omega arith;
      right = (let k : j % (2 ^ m - 1) < 2 ^ m - 1 = mod-lt j some in omega arith);
    }
  where
    some : 0 < 2 ^ m - 1
    some = go (2 ^ m - 1) refl
      where
        go : (x : ℕ) → 2 ^ m - 1 ≡ x → 0 < x
        go zero e = absurd (omega (arith, subst (λ (x : ℕ). j < (2 ^ n - 1) * x) e h, mul-zero (2 ^ n - 1)))
        go (suc x) e = omega arith

pub number_in_range : (n m A B : ℕ) → Masks n m A B → numbered m A B < generator_count n m
unfolding generator_count numbered
number_in_range n m A B M = digits_lt (one_less M.some_left M.left) (one_less M.some_right M.right)
  where
    one_less : {x y : ℕ} → 1 ≤ x → x < y → x - 1 < y - 1
    one_less h k = omega arith

pub generator_below : (n m j : ℕ) → generator_form n m j < 2 ^ (n * m)
unfolding generator_form
generator_below n m j = product_below n m (first_mask m j) (second_mask m j)

-- ---- the list
pub length_list_of : (f : ℕ → ℕ) (i c : ℕ) → length (list_of f i c) ≡ c
unfolding list_of
length_list_of f i zero = refl
length_list_of f i (suc c) = ap suc (length_list_of f (suc i) c)

pub at_list_of : (f : ℕ → ℕ) (i c j : ℕ) → j < c → get_or (list_of f i c) j 0 ≡ f (i + j)
unfolding list_of
at_list_of f i zero j h = absurd (omega arith)
at_list_of f i (suc c) zero h = ap f (sym (add-zero i))
at_list_of f i (suc c) (suc j) h = at_list_of f (suc i) c j (omega arith) ∙ ap f (suc-add i j ∙ sym (add-suc i j))

pub forms_length : (n m : ℕ) → length (generator_forms n m) ≡ generator_count n m
unfolding generator_forms
forms_length n m = length_list_of (generator_form n m) 0 (generator_count n m)

pub forms_at : (n m j : ℕ) → j < generator_count n m → get_or (generator_forms n m) j 0 ≡ generator_form n m j
unfolding generator_forms
forms_at n m j h = at_list_of (generator_form n m) 0 (generator_count n m) j h ∙ ap (generator_form n m) (zero-add j)
