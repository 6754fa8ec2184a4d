-- What reading a formula's file gives: the first refusal of the list that applies, or the formula.
--   formula_file s la lb lr == of the text s, with lent buffers of la, lb and lr words for the first factors, the second factors and the rows
-- Document 01, "Refused, in this order":
--   1. "The first two lines are not as above"
--   2 to 8, with 5. "The remaining lines are too few, too many, out of order or misshapen": `admit` (formula_check)
--   9. "A lent buffer that must take the whole of an answer is too short": `held_in` (formula_check)
-- Assumes nothing.
use Rattle.std.specs.Prelude.{ℕ, List}
use Rattle.kinds.specs.Refusal.{Answer, need, follow}
use Rattle.kinds.specs.declared.Shape.{Shape}
use Rattle.text.specs.heads.Head.{Head, head_lines}
use Rattle.formula_check.specs.Formula.{Admitted, passed, admit, held_in}
use Rattle.formula_files.specs.lines.Formula.{body}

-- 5 to 9, of the lines under the first two: k products and t rows
abbrev pub under : (shape : Shape) (k n m t la lb lr : ℕ) → List ℕ → Answer Admitted
under shape k n m t la lb lr s = follow (need 5 (body k t s) λ l. passed shape n m k l.0 l.1 l.2) (held_in la lb lr)

-- 2 to 9, of the first two lines and the text after them
unfoldable pub rest : Head → List ℕ → (la lb lr : ℕ) → Answer Admitted
rest h s la lb lr = follow (admit h.kind h.p h.q h.r h.k (λ t. body h.k t s)) (held_in la lb lr)

unfoldable pub formula_file : List ℕ → (la lb lr : ℕ) → Answer Admitted
formula_file s la lb lr = need 1 (head_lines s) λ h. rest h.0 h.1 la lb lr
