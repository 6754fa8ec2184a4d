-- The rows of a formula in any layout. A row has a digit for each product; it is itself a vector, whose coordinate i is what product i is taken times.
--   Row l             == a row: a mask over two elements, the masks of the nonzero digits and of the twos over three
--   digits_of cs       == the row over three elements with the digits cs
--   row_digits xs row k == the sum that a row over three elements says of xs; the first is numbered k
--   row_in l xs v      == the row of v over the products xs
--   row_sum l xs row   == the sum that a row says
--   RowFits l n row   == a row of n digits
--   rows_in l xs ts    == the words of the rows for all of ts, one after the other
-- Laws (proofs/laws/of_rows/Layouts): row_says, row_alone, rows_length. Assumes nothing.
use Rattle.std.specs.Prelude.{List, [], ◌∷◌, map, ℕ, suc, ◌^◌, ◌<◌}
use Rattle.linear.specs.Planes.{Three, Planes, coord3, nul3}
use Rattle.linear.specs.Coefficients.{coefficients}
use Rattle.linear.specs.Trit.{trits}
use Rattle.linear.specs.laws.Planes.{nonzero, is_two, add3, scale3}
use Rattle.layouts.specs.declared.Layout.{Layout}
use Rattle.layouts.specs.declared.Layout.TheVariants as layout
use Rattle.layouts.specs.Layout.{form_space, apart}
use Rattle.forms.specs.Row.{row_form}
use Rattle.bases.specs.rows.Rows.{mask_of, row_of}
use Rattle.bases.specs.rows.laws.Digits.{digits_within}

abbrev pub Row : Layout → Type 0
Row layout.Narrow = ℕ
Row layout.Wide = ℕ
Row layout.Ternary = Planes

unfoldable pub digits_of : List Three → Planes
digits_of cs = ((mask_of (map nonzero cs), mask_of (map is_two cs)), digits_within cs)

unfoldable pub row_digits : List Planes → Planes → ℕ → Planes
row_digits [] row k = nul3
row_digits (x ∷ xs) row k = add3 (scale3 (coord3 row k) x) (row_digits xs row (suc k))

abbrev pub row_in : (l : Layout) → List (form_space l).Vec → (form_space l).Vec → Row l
row_in layout.Narrow xs v = row_of xs v
row_in layout.Wide xs v = row_of xs v
row_in layout.Ternary xs v = digits_of (coefficients trits xs v)

abbrev pub row_sum : (l : Layout) → List (form_space l).Vec → Row l → (form_space l).Vec
row_sum layout.Narrow xs row = row_form xs row 0
row_sum layout.Wide xs row = row_form xs row 0
row_sum layout.Ternary xs row = row_digits xs row 0

abbrev pub RowFits : (l : Layout) → ℕ → Row l → Type 0
RowFits layout.Narrow n row = row < 2 ^ n
RowFits layout.Wide n row = row < 2 ^ n
RowFits layout.Ternary n row = row.0.0 < 2 ^ n

abbrev pub rows_in : (l : Layout) → (xs ts : List (form_space l).Vec) → List ℕ
rows_in layout.Narrow xs ts = map (row_of xs) ts
rows_in layout.Wide xs ts = map (row_of xs) ts
rows_in layout.Ternary xs ts = apart (λ t. (row_in layout.Ternary xs t).0.0) (λ t. (row_in layout.Ternary xs t).0.1) ts
