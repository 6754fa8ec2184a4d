-- The lines of a list under the first two, as readings: each gives what it says and the text after it; `none` is 'misshapen' (refusal 5).
--   role_names                 == `role,form,cost`
--   generator_role, target_role == the bytes `g` and `t`
--   target_cost                == the largest cost of a target: 0 is the only one. That of a generator: most_cost (kinds, Limits)
--   cost_line s                == a cost in decimal, LF
--   form_and_cost most s        == a form in hexadecimal, a comma, a cost of at most `most`, LF
--   role_line c most s         == the form and the cost of a line: the byte c, a comma, those
--   role_lines c most n s      == the forms and the costs of n such lines
--   list_body q r s            == the forms of q generators and of r targets, and the generators' costs: all of the text
-- Document 01: "For list follow `role,form`, then q lines `g,..` and r lines `t,..`." Document 02: "a list file's second names line becomes
-- `role,form,cost`; targets have cost 0 [..] A cost has up to five digits; a missing, misshapen or larger one, or a target's other than 0, is refused by 5."
-- Assumes nothing.
use Rattle.std.specs.Prelude.{ℕ, zero, suc, List, [], ◌∷◌, ◌&&◌, not, cond, eqb, ltb, Option, None, Some}
use Rattle.kinds.specs.Limits.{most_cost}
use Rattle.kinds.specs.Sizes.{given}
use Rattle.text.specs.Reading.{◌>>=◌}
use Rattle.text.specs.Line.{LF, comma, name_line, field, mask_field}
use Rattle.formula_files.specs.lines.Formula.{ended}

abbrev pub role_names : List ℕ
role_names = 114 ∷ 111 ∷ 108 ∷ 101 ∷ 44 ∷ 102 ∷ 111 ∷ 114 ∷ 109 ∷ 44 ∷ 99 ∷ 111 ∷ 115 ∷ 116 ∷ []

abbrev pub generator_role : ℕ
generator_role = 103

abbrev pub target_role : ℕ
target_role = 116

abbrev pub target_cost : ℕ
target_cost = 0

abbrev pub cost_line : List ℕ → Option (ℕ × List ℕ)
cost_line s = field 10 5 LF s

unfoldable pub form_and_cost : ℕ → List ℕ → Option ((ℕ × ℕ) × List ℕ)
form_and_cost most s = do
  x ← mask_field s
  y ← cost_line x.1
  given (not (ltb most y.0)) ((x.0, y.0), y.1)

unfoldable pub role_line : (c most : ℕ) → List ℕ → Option ((ℕ × ℕ) × List ℕ)
role_line c most [] = None
role_line c most (a ∷ []) = None
role_line c most (a ∷ b ∷ s) = cond (eqb a c && eqb b comma) (form_and_cost most s) None

unfoldable pub role_lines : (c most n : ℕ) → List ℕ → Option ((List ℕ × List ℕ) × List ℕ)
role_lines c most zero s = Some (([], []), s)
role_lines c most (suc n) s = do
  l ← role_line c most s
  m ← role_lines c most n l.1
  Some ((l.0.0 ∷ m.0.0, l.0.1 ∷ m.0.1), m.1)

unfoldable pub list_body : ℕ → ℕ → List ℕ → Option (List ℕ × List ℕ × List ℕ)
list_body q r s = do
  u ← name_line role_names s
  g ← role_lines generator_role most_cost q u
  t ← role_lines target_role target_cost r g.1
  given (ended t.1) (g.0.0, t.0.0, g.0.1)
