-- The answers of the code, in the definitions' terms, and what its steps ask.
--   seen_posed g t x  == the answer that x stands for, the forms standing at the start of the buffers g and t
--   Room c u         == at most 4,095 generators, and between 1 and 64 targets
--   Laid asked x g t == x answers what was asked, and its numbers of generators and targets are such
--   PoseAsked u g t  == between 1 and 64 targets are asked for, and the buffers have room for any problem
-- Assumes nothing.
use Rattle.std.specs.Prelude.{◌≡◌, List, ℕ, ◌≤◌, length, take}
use Rattle.kinds.specs.Refusal.{Answer, refused, accepted}
use Rattle.problems.specs.Problem.{Problem, problem}
use Rattle.problems.specs.declared.Posed.{Posed}
use Rattle.problems.specs.declared.Posed.TheVariants as posed
use Rattle.kinds.specs.Limits.{most_generators, most_targets}

abbrev pub seen_posed : List ℕ → List ℕ → Posed → Answer Problem
seen_posed g t (posed.Refused e) = refused e
seen_posed g t (posed.Are c u) = accepted (problem (take c g) (take u t))

pub record Room (c u : ℕ) : Type 0 where
  pub generators : c ≤ most_generators
  pub some_target : 1 ≤ u
  pub targets : u ≤ most_targets

abbrev pub PosedFits : Posed → Type 0
PosedFits (posed.Refused e) = Unit {0}
PosedFits (posed.Are c u) = Room c u

pub record Laid (asked : Answer Problem) (x : Posed) (g t : List ℕ) : Type 0 where
  pub answer : asked ≡ seen_posed g t x
  pub room : PosedFits x

pub record PoseAsked (u : ℕ) (g t : List ℕ) : Type 0 where
  pub some_target : 1 ≤ u
  pub most_targets_law : u ≤ most_targets
  pub generators : most_generators ≤ length g
  pub targets : most_targets ≤ length t
