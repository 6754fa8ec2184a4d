-- What the exported calls answer.
--   check_file s               == of a byte string that holds a formula's file: a refusal's number, or what the Check program prints
--   numbers_reply, numbers_lent == the reply of `gijpsando_check_numbers`, and the final content of its lent words
-- The reply of `gijpsando_check` and the second string's final content, `reply_of` and `bytes_of`, are in crate check_text.
-- Document 01: "one byte string holds a file as below, a second takes what the Check program would print, and the reply is the count of bytes
-- written (always above 35) or a refusal's number. Too short a second string is refused by 9." Assumes nothing.
use Rattle.std.specs.Prelude.{cond, List, ℕ, length, ltb, Option}
use Rattle.kinds.specs.Refusal.{Answer, refused, accepted, follow}
use Rattle.words.specs.Buffers.{filled}
use Rattle.formula_check.specs.Replies.{check_values}
use Rattle.formula_files.specs.FormulaFile.{formula_file}
use Rattle.check_text.specs.CheckAnswers.{admitted_text}
use Rattle.kinds.specs.Limits.{most_products, most_targets}

-- the file is read, and the formula that it holds is judged
unfoldable pub check_file : List ℕ → Answer (List ℕ)
check_file s = follow (formula_file s most_products most_products most_targets) λ f. accepted (admitted_text f)

-- ---- gijpsando_check_numbers, with the lent words d: verdict (0 right, 1 wrong), output, adders
abbrev pub numbers_reply : Answer (Option ℕ × ℕ) → List ℕ → ℕ
numbers_reply (refused e) d = e
numbers_reply (accepted x) d = cond (ltb (length d) 3) 9 0

abbrev pub numbers_lent : Answer (Option ℕ × ℕ) → List ℕ → List ℕ
numbers_lent (refused e) d = d
numbers_lent (accepted x) d = cond (ltb (length d) 3) d (filled (check_values x) d)
