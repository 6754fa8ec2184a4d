-- Flags of the numbers that a search leaves out.
--   FlaggedBefore h start flags   == 4,096 flags, and only numbers before start that are new by the residues h have one
-- Laws: laws/Dead. Assumes nothing.
use Rattle.std.specs.Prelude.{◌≡◌, ◌≢◌, List, ℕ, ◌<◌, length, get_or}
use Rattle.residues.specs.Room.{search_room}

pub record FlaggedBefore (h : List ℕ) (start : ℕ) (flags : List ℕ) : Type 0 where
  pub whole : length flags ≡ search_room
  pub only : (i : ℕ) → get_or flags i 0 ≢ 0 → (i < start) × (get_or h i 0 ≢ 0)
