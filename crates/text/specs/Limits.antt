-- The limits of the programs. Document 01: "in a program, also an input of more than 65,536 bytes"; "The program's buffer has 4,096 words."
--   most_bytes     == the bytes of the longest input that is read as a file
--   input_room     == how much of an input a program reads: a byte more, so that a longer one is told. That this is enough: read_enough (laws/Enough)
--   program_words  == the words of a program's buffer
-- Assumes nothing.
use Rattle.std.specs.Prelude.{ℕ, ◌+◌}

abbrev pub most_bytes : ℕ
most_bytes = 65536

abbrev pub input_room : ℕ
input_room = most_bytes + 1

abbrev pub program_words : ℕ
program_words = 4096
