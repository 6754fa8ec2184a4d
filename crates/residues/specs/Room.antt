-- The arrays of the search: a place for each generator's number, and one more.
-- Assumes nothing.
use Rattle.std.specs.Prelude.{ℕ}

abbrev pub search_room : ℕ
search_room = 4096
