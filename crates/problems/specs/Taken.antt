-- What an accepted problem is like, kind by kind.
--   ListTaken ..   == the list's forms have the right numbers and widths, and no generator is zero or stands twice
--   MapTaken ..    == the map has at most 4,095 generators, no list was handed in, and the further forms have n × m bits
-- Assumes nothing.
use Rattle.std.specs.Prelude.{◌≡◌, false, List, ℕ, ◌*◌, ◌≤◌, length}
use Rattle.kinds.specs.declared.Shape.{Shape}
use Rattle.words.specs.Masks.{wide, zero_in}
use Rattle.words.specs.lists.Lists.{repeats}
use Rattle.maps.specs.Generators.{generator_forms, generator_count}
use Rattle.problems.specs.Problem.{Problem, problem, target_forms}
use Rattle.kinds.specs.Limits.{most_generators}

pub record ListTaken (p q r : ℕ) (gs ts others : List ℕ) (P : Problem) : Type 0 where
  pub is : P ≡ problem gs ts
  pub few : q ≤ most_generators
  pub generators : length gs ≡ q
  pub targets : length ts ≡ r
  pub generators_fit : wide p gs ≡ false
  pub targets_fit : wide p ts ≡ false
  pub others_fit : wide p others ≡ false
  pub no_zero : zero_in gs ≡ false
  pub no_repeat : repeats gs ≡ false

pub record MapTaken (shape : Shape) (n m u : ℕ) (gs ts others : List ℕ) (P : Problem) : Type 0 where
  pub is : P ≡ problem (generator_forms n m) (target_forms shape n m u)
  pub few : generator_count n m ≤ most_generators
  pub no_generators : length gs ≡ 0
  pub no_targets : length ts ≡ 0
  pub others_fit : wide (n * m) others ≡ false
