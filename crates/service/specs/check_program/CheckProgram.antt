-- What the Check program prints of an input.
--   program_text s == all that is printed of the input s
-- Document 01, refusal 1: "in a program, also an input of more than 65,536 bytes". Assumes nothing.
use Rattle.std.specs.Prelude.{cond, List, ℕ, length, ltb}
use Rattle.printing.specs.fields.RefusedText.{refused_text}
use Rattle.service.specs.Service.{check_file}
use Rattle.text.specs.Limits.{most_bytes}
use Rattle.printing.specs.refusals.Pages.{answer_text}

unfoldable pub program_text : List ℕ → List ℕ
program_text s = cond (ltb most_bytes (length s)) (refused_text 1) (answer_text (check_file s))
