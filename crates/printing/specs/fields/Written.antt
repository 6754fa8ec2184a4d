-- A text handed over in a lent buffer: all of it, or nothing where the buffer is too short.
--   bytes_in t d   == the bytes written
--   written_in t d == the buffer d after that: t from the start and the rest as it was, or d unchanged
-- Document 01: "An accepted call writes from a buffer's start, and the rest keeps its values." Assumes nothing.
use Rattle.std.specs.Prelude.{ℕ, List, cond, length, ltb}
use Rattle.words.specs.Buffers.{filled}

unfoldable pub bytes_in : List ℕ → List ℕ → ℕ
bytes_in t d = cond (ltb (length d) (length t)) 0 (length t)

unfoldable pub written_in : List ℕ → List ℕ → List ℕ
written_in t d = cond (ltb (length d) (length t)) d (filled t d)
