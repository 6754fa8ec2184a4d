-- The parts of a formula.
--   product_forms n m xs ys == the forms of the products, pairs of masks in n and m variables
--   adders_of xs            == the adders of some masks, each counted
--   distinct xs            == the masks of xs, each once
--   side_adders xs          == the adders of one side's masks, equal ones counted once
--   FormsFilled xs n out   == the first n words of the buffer are xs, and it has 64
-- What a row sums: row_form (forms, Row). Assumes nothing.
use Rattle.std.specs.Prelude.{◌≡◌, cond, List, [], ◌∷◌, ℕ, ◌+◌, ◌-◌, eqb, length, take}
use Rattle.linear.specs.Select.{any_of}
use Rattle.forms.specs.products.Product.{product_form}
use Rattle.forms.specs.Weight.{weight}
use Rattle.kinds.specs.Limits.{most_products}

unfoldable pub product_forms : ℕ → ℕ → List ℕ → List ℕ → List ℕ
product_forms n m [] ys = []
product_forms n m (x ∷ xs) [] = []
product_forms n m (x ∷ xs) (y ∷ ys) = product_form n m x y ∷ product_forms n m xs ys

-- ---- adders: "every factor and every nonzero row with w ones needs w − 1; a zero row needs none" (0 − 1 is 0 here)
unfoldable pub adders_of : List ℕ → ℕ
adders_of [] = 0
adders_of (x ∷ xs) = (weight 64 x - 1) + adders_of xs

-- Wish 2: "Adders on the input side now count each distinct a mask once and each distinct b mask once": of equal masks the last stays
unfoldable pub distinct : List ℕ → List ℕ
distinct [] = []
distinct (x ∷ xs) = let r = distinct xs in cond (any_of (eqb x) xs) r (x ∷ r)

abbrev pub side_adders : List ℕ → ℕ
side_adders xs = adders_of (distinct xs)

pub record FormsFilled (xs : List ℕ) (n : ℕ) (out : List ℕ) : Type 0 where
  pub whole : length out ≡ most_products
  pub start : take n out ≡ xs
