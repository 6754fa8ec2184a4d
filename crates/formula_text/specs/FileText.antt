-- The file format: the text of a formula.
--   formula_text shape xs ys zs == the first two lines, `a,b`, a line for each product, `row`, a line for each row
--   FormulaAsked xs ys zs at   == at most 64 products, with as many second masks as first ones, and at most 64 rows, to be printed from place `at` on
--   file_text f                 == the text of an admitted formula, as
--     kind,p,q,r,k
--     poly,2,2,0,3
--     a,b
--     1,1
--     2,2
--     3,3
--     row
--     1
--     7
--     2
-- Document 01: "Text, lines ended by LF, a line of names and then lines of values in that order." Assumes nothing.
use Rattle.std.specs.Prelude.{ℕ, ◌≤◌, ◌≡◌, List, length}
use Rattle.kinds.specs.declared.Shape.{Shape}
use Rattle.kinds.specs.Limits.{most_products, most_targets}
use Rattle.formula_check.specs.Formula.{Admitted}
use Rattle.formula_text.specs.HeadText.{file_head}
use Rattle.formula_text.specs.BodyText.{body_text}

abbrev pub formula_text : Shape → (xs ys zs : List ℕ) → List ℕ
formula_text shape xs ys zs = file_head shape (length xs) (body_text xs ys zs)

unfoldable pub file_text : Admitted → List ℕ
file_text f = formula_text f.shape f.firsts f.seconds f.rows

pub record FormulaAsked (xs ys zs : List ℕ) (at : ℕ) : Type 0 where
  pub paired : length xs ≡ length ys
  pub few : length xs ≤ most_products
  pub outputs : length zs ≤ most_targets
  pub place : at ≤ 1000000
