-- Which numbers a walk goes on with from a space.
--   Sieving gens h start missing .. == what `sieve` asks: as many residues as generators, the number to start from, the dimensions missing, the length of
--                                      the lent rows, and no marks
--   Judged .. r                     == the mark r of j is 0 only where j is known or its child barren, and else j is not known
--   Sieved .. lo hi marks           == the numbers from lo on and below hi are so marked
-- So a sieve never drops a number that is not known and leads to an entry. Laws: laws/Marks. Assumes nothing.
use Rattle.std.specs.Prelude.{◌≡◌, ◌≢◌, ◌⊎◌, true, false, List, ℕ, ◌<◌, ◌≤◌, length, get_or, replicate}
use Rattle.residues.specs.children.Residues.{known}
use Rattle.residues.specs.children.Barren.{Barren}
use Rattle.residues.specs.Room.{search_room}
use Rattle.weights.specs.rank_rows.Stretch.{row_room}

pub record Sieving (gens h : List ℕ) (start missing : ℕ) (rows marks : List ℕ) : Type 0 where
  pub alike : length gens ≡ length h
  pub few : length h ≤ search_room
  pub begin : start ≤ length h
  pub some : missing ≢ 0
  pub most : missing ≤ 8
  pub rows_all : length rows ≡ row_room
  pub blank : marks ≡ replicate search_room 0

pub record Judged (gens h : List ℕ) (j k missing r : ℕ) : Type 0 where
  pub off : r ≡ 0 → (true ≡ known h j) ⊎ Barren gens h j k missing
  pub on : r ≢ 0 → false ≡ known h j

pub record Sieved (gens h : List ℕ) (lo hi k missing : ℕ) (marks : List ℕ) : Type 0 where
  pub whole : length marks ≡ search_room
  pub judged : (j : ℕ) → lo ≤ j → j < hi → Judged gens h j k missing (get_or marks j 0)
