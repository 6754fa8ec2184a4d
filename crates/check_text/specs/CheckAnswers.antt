-- The reply of Check as text, in a lent byte string.
--   admitted_text f     == what the Check program prints of an admitted formula
--   reply_of, bytes_of   == the reply of `gijpsando_check`, and the second string's final content
-- Document 01: "a second takes what the Check program would print, and the reply is the count of bytes written (always above 35) or a refusal's
-- number. Too short a second string is refused by 9." Assumes nothing.
use Rattle.std.specs.Prelude.{cond, List, ℕ, length, ltb, Option, None, Some}
use Rattle.formula_check.specs.Formula.{Admitted, verdict}
use Rattle.kinds.specs.Refusal.{Answer, refused, accepted}
use Rattle.formula_check.specs.declared.verdicts.Verdict.{Verdict}
use Rattle.formula_check.specs.declared.verdicts.Verdict.TheVariants as said
use Rattle.check_text.specs.replies.CheckText.{check_text}
use Rattle.printing.specs.fields.Written.{written_in}

abbrev pub verdict_of : Option ℕ → Verdict
verdict_of None = said.Right
verdict_of (Some t) = said.Wrong t

abbrev pub admitted_text : Admitted → List ℕ
admitted_text f = check_text f.shape (length f.firsts) (verdict_of (verdict f).0) (verdict f).1

-- ---- with the second string d
abbrev pub reply_of : Answer (List ℕ) → List ℕ → ℕ
reply_of (refused e) d = e
reply_of (accepted t) d = cond (ltb (length d) (length t)) 9 (length t)

abbrev pub bytes_of : Answer (List ℕ) → List ℕ → List ℕ
bytes_of (refused e) d = d
bytes_of (accepted t) d = written_in t d
