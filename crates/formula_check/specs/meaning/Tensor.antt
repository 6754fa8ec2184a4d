-- A formula by its coefficients.
--   tensor xs ys row i j   == the coefficient of a_i b_j in what the row gives: the sum modulo 2, over the products l, of bit i of the first mask,
--                             bit j of the second and bit l of the row
--   Coefficients ..        == each coefficient of each output is the map's: 1 exactly where a_i b_j is a term
-- The theorem that ties it to every choice of input bits is `right_coefficients` (Theorems). Assumes nothing.
use Rattle.std.specs.Prelude.{◌≡◌, Bool, ◌&&◌, List, ℕ, ◌<◌, length, get_or}
use Rattle.linear.specs.Bit.{bit}
use Rattle.kinds.specs.declared.Shape.{Shape}
use Rattle.maps.specs.Textbook.{sum_to}
use Rattle.maps.specs.Target.{pair}

abbrev pub tensor : (xs ys : List ℕ) (row i j : ℕ) → Bool
tensor xs ys row i j = sum_to (length xs) (λ l. bit (get_or xs l 0) i && (bit (get_or ys l 0) j && bit row l))

abbrev pub Coefficients : Shape → (n m : ℕ) (xs ys rows : List ℕ) → Type 0
Coefficients shape n m xs ys rows = (t i j : ℕ) → t < length rows → i < n → j < m → tensor xs ys (get_or rows t 0) i j ≡ pair shape t i j
