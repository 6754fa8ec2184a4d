-- A text handed over on a lent page, which must take the whole of it.
--   page_answer t d == the answer where the text t is to go to the page d: refused by 9, or the bytes written
--   seen_printed x  == what the code's answer x says
--   PrintedWhole x d == x is no refusal, and the bytes that it counts are within the page d
-- The page after it is `written_in t d` (fields). Document 01, refusal 9: "A lent buffer that must take the whole of an answer is too short".
-- Assumes nothing.
use Rattle.std.specs.Prelude.{ℕ, ◌≤◌, List, length, ltb}
use Rattle.kinds.specs.Refusal.{Answer, refused, accepted, refuse}
use Rattle.printing.specs.declared.pages.Printed.{Printed}
use Rattle.printing.specs.declared.pages.Printed.TheVariants as printed

unfoldable pub page_answer : List ℕ → List ℕ → Answer ℕ
page_answer t d = refuse 9 (ltb (length d) (length t)) (accepted (length t))

abbrev pub seen_printed : Printed → Answer ℕ
seen_printed (printed.Refused e) = refused e
seen_printed (printed.Bytes n) = accepted n

abbrev pub PrintedWhole : Printed → List ℕ → Type 0
PrintedWhole (printed.Refused e) d = ⊥
PrintedWhole (printed.Bytes n) d = n ≤ length d
