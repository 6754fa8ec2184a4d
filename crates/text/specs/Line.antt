-- Lines and fields: each reading gives what it says and the text after it.
--   till c s                        == how many bytes of s stand before the first c
--   cut c s                         == what stands before the first c, and what follows it; none where there is no c
--   name_line name s                 == the text after the fixed line `name`
--   field base most c s             == a numeral that the byte c ends, and the text after it
--   count_field, mask_line, mask_field == a count that a comma ends; a mask that LF ends, and one that a comma ends
-- Document 01: "lines ended by LF, a line of names and then lines of values in that order". Assumes nothing.
use Rattle.std.specs.Prelude.{ℕ, suc, List, [], ◌∷◌, cond, eqb, Option, None, Some}
use Rattle.kinds.specs.Kinds.{same}
use Rattle.kinds.specs.Sizes.{given}
use Rattle.text.specs.Reading.{◌>>=◌}
use Rattle.text.specs.Numeral.{numeral}

abbrev pub LF : ℕ
LF = 10

abbrev pub comma : ℕ
comma = 44

unfoldable pub till : ℕ → List ℕ → ℕ
till c [] = 0
till c (b ∷ s) = cond (eqb b c) 0 (suc (till c s))

unfoldable pub cut : ℕ → List ℕ → Option (List ℕ × List ℕ)
cut c [] = None
cut c (b ∷ s) = cond (eqb b c) (Some ([], s)) (cut c s >>= λ p. Some (b ∷ p.0, p.1))

unfoldable pub name_line : List ℕ → List ℕ → Option (List ℕ)
name_line name s = do
  p ← cut LF s
  given (same p.0 name) p.1

unfoldable pub field : ℕ → ℕ → ℕ → List ℕ → Option (ℕ × List ℕ)
field base most c s = do
  f ← cut c s
  v ← numeral base most f.0
  Some (v, f.1)

abbrev pub count_field : List ℕ → Option (ℕ × List ℕ)
count_field s = field 10 4 comma s

abbrev pub mask_field : List ℕ → Option (ℕ × List ℕ)
mask_field s = field 16 16 comma s

abbrev pub mask_line : List ℕ → Option (ℕ × List ℕ)
mask_line s = field 16 16 LF s
