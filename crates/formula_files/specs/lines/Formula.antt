-- The lines of a formula under the first two, as readings: each gives what it says and the text after it; `none` is 'misshapen'.
--   product_line s == the two masks of a product
--   products k s  == the first masks of k products, their second masks
--   rows t s      == t rows
--   body k t s    == the factors and rows of a formula with k products and t outputs: all of the text
-- Document 01: "For Check follow `a,b`, k lines, then `row` and one line per target." Assumes nothing.
use Rattle.std.specs.Prelude.{ℕ, zero, suc, List, [], ◌∷◌, Bool, true, false, Option, Some}
use Rattle.kinds.specs.Sizes.{given}
use Rattle.text.specs.Reading.{◌>>=◌}
use Rattle.text.specs.Line.{name_line, mask_field, mask_line}

-- `a,b`
abbrev pub product_names : List ℕ
product_names = 97 ∷ 44 ∷ 98 ∷ []

-- `row`
abbrev pub row_name : List ℕ
row_name = 114 ∷ 111 ∷ 119 ∷ []

unfoldable pub product_line : List ℕ → Option (ℕ × ℕ × List ℕ)
product_line s = do
  x ← mask_field s
  y ← mask_line x.1
  Some (x.0, y.0, y.1)

unfoldable pub products : ℕ → List ℕ → Option (List ℕ × List ℕ × List ℕ)
products zero s = Some ([], [], s)
products (suc k) s = do
  l ← product_line s
  m ← products k l.2
  Some (l.0 ∷ m.0, l.1 ∷ m.1, m.2)

unfoldable pub rows : ℕ → List ℕ → Option (List ℕ × List ℕ)
rows zero s = Some ([], s)
rows (suc t) s = do
  l ← mask_line s
  m ← rows t l.1
  Some (l.0 ∷ m.0, m.1)

-- nothing may follow
unfoldable pub ended : List ℕ → Bool
ended [] = true
ended (b ∷ s) = false

unfoldable pub body : ℕ → ℕ → List ℕ → Option (List ℕ × List ℕ × List ℕ)
body k t s = do
  u ← name_line product_names s
  p ← products k u
  v ← name_line row_name p.2
  r ← rows t v
  given (ended r.1) (p.0, p.1, r.0)
