-- The turned formula of a file.
--   turn_file s                    == of a byte string that holds a formula's file: the first refusal that applies, or the turned formula
--   turning_of f                   == the turning of a formula on numbers, with such buffers
--   FullHeld shape k a b rows     == buffers that hold a full product formula of as many variables b as a
-- Document 02, the turning: 2 and 3 of its own, those of Check, then 12. After 1, as in every file; 9 never applies (turn_refused, Theorems).
-- Assumes nothing.
use Rattle.std.specs.Prelude.{◌≡◌, List, ℕ, length}
use Rattle.kinds.specs.Kinds.{number_of}
use Rattle.kinds.specs.Limits.{most_products, most_targets}
use Rattle.kinds.specs.Refusal.{Answer, need, follow}
use Rattle.kinds.specs.Sizes.{shape_of}
use Rattle.kinds.specs.declared.Kind.TheVariants as kind
use Rattle.kinds.specs.declared.Shape.{Shape}
use Rattle.text.specs.heads.Head.{head_lines}
use Rattle.formula_check.specs.Formula.{Admitted}
use Rattle.formula_check.specs.Buffers.{FormulaBuffers}
use Rattle.formula_files.specs.FormulaFile.{formula_file}
use Rattle.turning.specs.Turning.{turnable, turned_into, turning}

unfoldable pub turn_file : List ℕ → Answer Admitted
turn_file s =
    need 1 (head_lines s) λ h.
    follow (turnable h.0.kind h.0.p h.0.q h.0.r) λ _.
    follow (formula_file s most_products most_products most_targets) (turned_into most_products most_products most_targets)

abbrev pub turning_of : Admitted → Answer Admitted
turning_of f =
    turning (number_of f.shape.kind) f.shape.p f.shape.q f.shape.r (length f.firsts) f.firsts f.seconds f.rows
    most_products most_products most_targets

pub record FullHeld (shape : Shape) (k : ℕ) (a b rows : List ℕ) : Type 0 where
  pub full : shape ≡ shape_of kind.Poly shape.p shape.p 0
  pub ready : FormulaBuffers shape k a b rows
