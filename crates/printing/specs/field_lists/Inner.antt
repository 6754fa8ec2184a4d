-- Inner lists: numbers between two commas of a line.
--   spaced_text base most xs      == each number with a space before it
--   inner_text base most xs       == the numbers separated by a space, `-` where there are none
--   numbers_text xs, forms_text xs == generator numbers in decimal; forms and rows in hexadecimal
-- Document 01: "inner lists are separated by a space, and an empty one is `-`." Assumes nothing.
use Rattle.std.specs.Prelude.{ℕ, ◌<◌, ◌≤◌, List, [], ◌∷◌, ◌++◌, length}
use Rattle.printing.specs.Print.{numeral_text}

unfoldable pub spaced_text : ℕ → ℕ → List ℕ → List ℕ
spaced_text base most [] = []
spaced_text base most (x ∷ xs) = (32 ∷ numeral_text base most x) ++ spaced_text base most xs

unfoldable pub inner_text : ℕ → ℕ → List ℕ → List ℕ
inner_text base most [] = 45 ∷ []
inner_text base most (x ∷ xs) = numeral_text base most x ++ spaced_text base most xs

abbrev pub numbers_text : List ℕ → List ℕ
numbers_text xs = inner_text 10 20 xs

abbrev pub forms_text : List ℕ → List ℕ
forms_text xs = inner_text 16 16 xs

pub record InnerAsked (xs : List ℕ) (base most at : ℕ) : Type 0 where
  pub some : 0 < base
  pub small : base ≤ 16
  pub few : most ≤ 20
  pub place : at ≤ 4294967296
  pub short : length xs ≤ 100000000
