-- The problem of a file: the first refusal of 1 to 7 that applies, or what it poses.
--   ProblemFile             == the kind and sizes, k, the forms that the file hands in and its generators' costs (none of a map), and the problem that
--     the forms pose
--   posed_lines shape k n m s == 4 to 7 of the lines s under the first two: `body_of` (handed_forms), then `shaped` (problems)
--   posed_file s             == 1 to 7 of the text s
-- Document 01, "Refused, in this order":
--   1. "The first two lines are not as above"       2. "The kind [..] is unknown"      3. "A size misfits the table"
--   6. "A form [..] has a bit outside its width"    7. "A menu form is zero or repeats an earlier one"
-- Assumes nothing.
use Rattle.std.specs.Prelude.{ℕ, List, []}
use Rattle.kinds.specs.declared.Shape.{Shape}
use Rattle.kinds.specs.Sizes.{shape_of, sizes}
use Rattle.kinds.specs.Refusal.{Answer, accepted, need, follow}
use Rattle.problems.specs.Problem.{Problem, shaped}
use Rattle.text.specs.heads.Head.{head_lines}
use Rattle.problem_files.specs.handed_forms.ProblemLines.{body_of}

pub record ProblemFile : Type 0 where
  pub shape : Shape
  pub k : ℕ
  pub generators : List ℕ
  pub targets : List ℕ
  pub costs : List ℕ
  pub problem : Problem

abbrev pub problem_of : Shape → ℕ → (gs ts cs : List ℕ) → Problem → ProblemFile
problem_of shape k gs ts cs P = record { shape = shape; k = k; generators = gs; targets = ts; costs = cs; problem = P }

unfoldable pub posed_lines : Shape → (k n m : ℕ) → List ℕ → Answer ProblemFile
posed_lines shape k n m s =
    follow (body_of shape n m s) λ f.
    follow (shaped shape f.0 f.1 []) λ P.
    accepted (problem_of shape k f.0 f.1 f.2 P)

unfoldable pub posed_file : List ℕ → Answer ProblemFile
posed_file s =
    need 1 (head_lines s) λ h.
    need 2 h.0.kind λ kd.
    need 3 (sizes (shape_of kd h.0.p h.0.q h.0.r)) λ z.
    posed_lines (shape_of kd h.0.p h.0.q h.0.r) h.0.k z.0 z.1 h.1
