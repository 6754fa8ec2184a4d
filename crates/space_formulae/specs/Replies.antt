-- The formulae of a space, of a posed problem.
--   Some targets == there is a target, and at most 64
-- Assumes nothing.
use Rattle.std.specs.Prelude.{List, ℕ, ◌≤◌, length}
use Rattle.kinds.specs.Limits.{most_targets}

pub record Some (targets : List ℕ) : Type 0 where
  pub some_target : 1 ≤ length targets
  pub few : length targets ≤ most_targets
