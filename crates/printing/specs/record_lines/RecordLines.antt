-- The lines of records: a record has numbers and forms.
--   lead_text n                       == a number and a comma
--   lists_text xs ys                  == two inner lists, numbers and forms, and the line's end
--   entry_text i xs ys                == the line of entry i: its number, extension and basis
--   record_lines line d k i n listing == the lines of n records from number i on; a record has d numbers and k rows, `line` makes its line
--   Short xs ys at top               == lists of at most 1,000,000 numbers, and a place of at most `top`
--   Records listing d k n at         == n records of d numbers and k rows stand in the listing
-- Document 01: "`entry` counts from 0". Assumes nothing.
use Rattle.std.specs.Prelude.{ℕ, zero, suc, ◌+◌, ◌*◌, ◌≤◌, List, [], ◌∷◌, ◌++◌, length, take, drop}
use Rattle.text.specs.Line.{LF, comma}
use Rattle.printing.specs.Print.{number_text}
use Rattle.printing.specs.field_lists.Inner.{numbers_text, forms_text}

abbrev pub lead_text : ℕ → List ℕ
lead_text n = number_text n ++ (comma ∷ [])

unfoldable pub lists_text : List ℕ → List ℕ → List ℕ
lists_text xs ys = numbers_text xs ++ (comma ∷ forms_text ys) ++ (LF ∷ [])

-- "0,1,20 14 8 2 1"
unfoldable pub entry_text : ℕ → List ℕ → List ℕ → List ℕ
entry_text i xs ys = number_text i ++ (comma ∷ lists_text xs ys)

unfoldable pub record_lines : (ℕ → List ℕ → List ℕ → List ℕ) → (d k i n : ℕ) → List ℕ → List ℕ
record_lines line d k i zero listing = []
record_lines line d k i (suc n) listing = line i (take d (drop (i * (d + k)) listing)) (take k (drop (i * (d + k) + d) listing)) ++ record_lines line d k (suc i) n listing

pub record Short (xs ys : List ℕ) (at top : ℕ) : Type 0 where
  pub first : length xs ≤ 1000000
  pub second : length ys ≤ 1000000
  pub place : at ≤ top

pub record Records (listing : List ℕ) (d k n at : ℕ) : Type 0 where
  pub held : n * (d + k) ≤ length listing
  pub small : length listing ≤ 1000000
  pub few : n ≤ 1000000
  pub numbers : d ≤ 1000000
  pub rows : k ≤ 1000000
  pub place : at ≤ 1000000
