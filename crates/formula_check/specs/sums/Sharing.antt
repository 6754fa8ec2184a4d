-- What is said of a side's masks.
--   SameMasks xs ys == the same masks stand in both, however often and in whatever order
--   NoneTwice xs    == no mask with two or more ones stands at two places of xs
-- Assumes nothing.
use Rattle.std.specs.Prelude.{◌≡◌, ◌↔◌, ℕ, ◌<◌, ◌≤◌, length, get_or}
use mathlib.Core.List.{List, Memᴰ}
use Rattle.forms.specs.Weight.{weight}

abbrev pub SameMasks : (xs ys : List ℕ) → Type 0
SameMasks xs ys = (x : ℕ) → Memᴰ x xs ↔ Memᴰ x ys

abbrev pub NoneTwice : List ℕ → Type 0
NoneTwice xs = (i j : ℕ) → i < j → j < length xs → get_or xs i 0 ≡ get_or xs j 0 → weight 64 (get_or xs i 0) ≤ 1
