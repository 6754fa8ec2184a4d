-- What the functions of the residues write.
--   Mapped f l out == an array of 4,096 words that begins with the list l, mapped by f
-- Assumes nothing.
use Rattle.std.specs.Prelude.{◌≡◌, List, map, ℕ, length, take}
use Rattle.residues.specs.Room.{search_room}

pub record Mapped (f : ℕ → ℕ) (l out : List ℕ) : Type 0 where
  pub whole : length out ≡ search_room
  pub is : take (length l) out ≡ map f l
