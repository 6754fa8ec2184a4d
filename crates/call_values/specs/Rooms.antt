-- The rooms of the run, in bytes and words.
--   text_bytes   == of the calls, as text
--   number_words == of their numbers
--   lent_words   == of the longest buffer that a call is lent
--   turn_words   == of the longest of the three that a turning is lent
-- Assumes nothing.
use Rattle.std.specs.Prelude.{ℕ}

abbrev pub text_bytes : ℕ
text_bytes = 393216

abbrev pub number_words : ℕ
number_words = 131072

abbrev pub lent_words : ℕ
lent_words = 4096

abbrev pub turn_words : ℕ
turn_words = 64
