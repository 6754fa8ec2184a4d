-- What the functions that write forms ask.
--   Made n m c g         == c is the number of generators in n and m variables, at most 4,095, and g has room for them
--   Mapping shape .. u t == the sizes are accepted, and t has room for the u targets
-- Assumes nothing.
use Rattle.std.specs.Prelude.{◌≡◌, List, ℕ, ◌≤◌, length, Some}
use Rattle.kinds.specs.Sizes.{sizes}
use Rattle.kinds.specs.declared.Shape.{Shape}
use Rattle.maps.specs.Generators.{generator_count}
use Rattle.kinds.specs.Limits.{most_generators, most_targets}

pub record Made (n m c : ℕ) (g : List ℕ) : Type 0 where
  pub count : generator_count n m ≡ c
  pub few : c ≤ most_generators
  pub room : c ≤ length g

pub record Mapping (shape : Shape) (n m u : ℕ) (t : List ℕ) : Type 0 where
  pub sized : sizes shape ≡ Some (n, m, u)
  pub room : most_targets ≤ length t
