-- What the Turn program prints of an input.
--   turn_program s == all that is printed of the input s: the line of a refusal, or the file of the turned formula, which Check reads
-- Document 01, refusal 1: "in a program, also an input of more than 65,536 bytes". Assumes nothing.
use Rattle.std.specs.Prelude.{cond, List, ℕ, length, ltb}
use Rattle.kinds.specs.Refusal.{accepted, follow}
use Rattle.text.specs.Limits.{most_bytes}
use Rattle.printing.specs.fields.RefusedText.{refused_text}
use Rattle.printing.specs.refusals.Pages.{answer_text}
use Rattle.formula_text.specs.FileText.{file_text}
use Rattle.turn_program.specs.TurnFile.{turn_file}

unfoldable pub turn_program : List ℕ → List ℕ
turn_program s = cond (ltb most_bytes (length s)) (refused_text 1) (answer_text (follow (turn_file s) λ g. accepted (file_text g)))
