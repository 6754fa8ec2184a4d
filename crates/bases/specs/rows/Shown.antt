-- The terms of a sum of selected generators as they are shown, in any layout: over two elements their numbers, over three each number with its digit.
--   named_digits es row k  == those of the numbers es that a row over three elements names, each with its digit; the first is numbered k
--   named_in l es row      == those of the numbers es that a row names
--   terms_in l gens sel v  == the terms of v as a sum of the selected generators: of the part that is independent and spans them, what its row names
--   term_count l n         == how many terms n words show
--   term_words l n         == how many words n terms have
-- Laws: proofs/laws/of_rows/Shown. Assumes nothing.
use Rattle.std.specs.Prelude.{List, [], ◌∷◌, ℕ, suc, ◌*◌, ◌/◌}
use Rattle.linear.specs.Planes.{Three, n0, n1, n2, Planes, coord3}
use Rattle.linear.specs.Part.{part}
use Rattle.linear.specs.Entry.{chosen}
use Rattle.linear.specs.Trit.{trits}
use Rattle.layouts.specs.declared.Layout.{Layout}
use Rattle.layouts.specs.declared.Layout.TheVariants as layout
use Rattle.layouts.specs.Layout.{form_space}
use Rattle.bases.specs.rows.Terms.{named, terms}
use Rattle.bases.specs.rows.Layouts.{Row, row_in}

-- the number e with its digit before the others, unless that is 0
abbrev pub with_digit : ℕ → Three → List ℕ → List ℕ
with_digit e n0 r = r
with_digit e n1 r = e ∷ 1 ∷ r
with_digit e n2 r = e ∷ 2 ∷ r

unfoldable pub named_digits : List ℕ → Planes → ℕ → List ℕ
named_digits [] row k = []
named_digits (e ∷ es) row k = with_digit e (coord3 row k) (named_digits es row (suc k))

abbrev pub named_in : (l : Layout) → List ℕ → Row l → List ℕ
named_in layout.Narrow es row = named es row 0
named_in layout.Wide es row = named es row 0
named_in layout.Ternary es row = named_digits es row 0

abbrev pub terms_in : (l : Layout) (gens : List (form_space l).Vec) (sel : List ℕ) → (form_space l).Vec → List ℕ
terms_in layout.Narrow gens sel v = terms gens sel v
terms_in layout.Wide gens sel v = terms gens sel v
terms_in layout.Ternary gens sel v = let B = part trits gens sel in named_digits B (row_in layout.Ternary (chosen trits gens B) v) 0

abbrev pub term_count : Layout → ℕ → ℕ
term_count layout.Narrow n = n
term_count layout.Wide n = n
term_count layout.Ternary n = n / 2

abbrev pub term_words : Layout → ℕ → ℕ
term_words layout.Narrow n = n
term_words layout.Wide n = n
term_words layout.Ternary n = 2 * n
