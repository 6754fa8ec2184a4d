-- What a lent buffer holds at exit.
--   largest_word == 2 ^ 64 − 1
--   filled xs d == xs from the start of the buffer d, and the rest as it was
--   zeros d     == the whole of d 0
-- Document 01: "A refused reading sets the whole of the buffers it would have filled to zero"; "An accepted call writes from a buffer's
-- start, and the rest keeps its values." Assumes nothing.
use Rattle.std.specs.Prelude.{ℕ, List, ◌++◌, length, drop, replicate}

abbrev pub largest_word : ℕ
largest_word = 18446744073709551615

abbrev pub filled : List ℕ → List ℕ → List ℕ
filled xs d = xs ++ drop (length xs) d

abbrev pub zeros : List ℕ → List ℕ
zeros d = replicate (length d) 0
