-- The rows of a formula: which of its products sum to a target.
--   mask_of cs  == the number with the digits cs, the lowest first
--   row_of xs v == the mask of those products out of xs that sum to v, bit 0 for the first
-- Document 01: "then its rows: for every target, the mask of those products that sum to it, bit 0 for the first".
-- Laws (laws/Rows):
--   row_sum_law    the products that the row names sum to v, if v is a sum of products at all
--   row_only   and no other row does, if the products are independent
--   row-below  a row has as many bits as there are products
--   mask_bit   bit i of a mask is its digit i
-- Assumes nothing.
use Rattle.std.specs.Prelude.{Bool, true, false, List, [], ◌∷◌, ℕ, ◌+◌, ◌*◌}
use Rattle.linear.specs.Coefficients.{coefficients}
use Rattle.linear.specs.Word.{word}

abbrev pub row_bit : Bool → ℕ
row_bit false = 0
row_bit true = 1

unfoldable pub mask_of : List Bool → ℕ
mask_of [] = 0
mask_of (c ∷ cs) = row_bit c + 2 * mask_of cs

unfoldable pub row_of : List ℕ → ℕ → ℕ
row_of xs v = mask_of (coefficients word xs v)
