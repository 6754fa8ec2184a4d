-- The lines of an entry's formulae.
--   formula_text e i xs ys              == the line of formula i of entry e
--   more_text                           == after an entry's number: a formula of it was left out
--   formula_lines e k t n listing       == the lines of the first n formulae of entry e; a record has k numbers and t rows
--   left_text e whole                   == the line that says that one was left out, where these are not all
--   formulae_text e k t n whole listing == all lines of entry e
-- What Formulae prints is decided (docs/DECISIONS.md): "an entry of which one was left out ends with `N,more,-,-`". Assumes nothing.
use Rattle.std.specs.Prelude.{ℕ, Bool, true, false, List, [], ◌∷◌, ◌++◌}
use Rattle.text.specs.Line.{LF, comma}
use Rattle.printing.specs.Print.{number_text}
use Rattle.printing.specs.record_lines.RecordLines.{entry_text, record_lines}

-- "0,0,0 4 8,1 7 2"
unfoldable pub formula_text : (e i : ℕ) → (products rows : List ℕ) → List ℕ
formula_text e i products rows = number_text e ++ (comma ∷ entry_text i products rows)

-- "N,more,-,-"
abbrev pub more_text : List ℕ
more_text = 44 ∷ 109 ∷ 111 ∷ 114 ∷ 101 ∷ 44 ∷ 45 ∷ 44 ∷ 45 ∷ LF ∷ []

abbrev pub formula_lines : (e k t n : ℕ) → List ℕ → List ℕ
formula_lines e k t n listing = record_lines (formula_text e) k t 0 n listing

abbrev pub left_text : ℕ → Bool → List ℕ
left_text e true = []
left_text e false = number_text e ++ more_text

unfoldable pub formulae_text : (e k t n : ℕ) → Bool → List ℕ → List ℕ
formulae_text e k t n whole listing = formula_lines e k t n listing ++ left_text e whole
