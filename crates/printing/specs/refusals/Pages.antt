-- What a program prints of an answer, and the words that it has for it.
--   listing_room  == a program's buffer of words, before a call
--   reply_page    == the bytes of a page for a whole reply
--   check_page    == the bytes of a page for Check's reply
--   formula_page  == the bytes of a page for a formula's file
--   part_page     == the bytes of a page for a part of what the Formulae program prints
--   answer_text a == the text of an answer, or the line of its refusal
-- Document 01: "The program's buffer has 4,096 words." Assumes nothing.
use Rattle.std.specs.Prelude.{ℕ, List, replicate}
use Rattle.kinds.specs.Refusal.{Answer, refused, accepted}
use Rattle.printing.specs.fields.RefusedText.{refused_text}
use Rattle.text.specs.Limits.{program_words}

abbrev pub listing_room : List ℕ
listing_room = replicate program_words 0

abbrev pub reply_page : ℕ
reply_page = 196608

abbrev pub check_page : ℕ
check_page = 256

abbrev pub formula_page : ℕ
formula_page = 4096

abbrev pub part_page : ℕ
part_page = 278528

abbrev pub answer_text : Answer (List ℕ) → List ℕ
answer_text (refused e) = refused_text e
answer_text (accepted t) = t
