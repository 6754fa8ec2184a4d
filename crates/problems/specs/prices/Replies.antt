-- The answers of the code, in the definitions' terms, and what its steps ask.
--   seen_priced g t v x       == the answer that x stands for, the forms and prices standing at the start of the buffers g, t and v
--   Priced c v               == the first c words of v are as many prices, each of at most 16 bits
--   PricedLaid asked x g t v == x answers what was asked, its numbers of generators and targets are as `Room` says, and each generator has a price
--   PricesAsked shape costs c v == the generators have c prices, and v has room for them
--   Lent g t v               == the buffers have room for any problem and its prices
--   also_refused e x          == the answer x of what is refused by e too
-- Assumes nothing.
use Rattle.std.specs.Prelude.{◌≡◌, false, List, ℕ, ◌≤◌, min, length, take}
use Rattle.kinds.specs.Limits.{most_generators, most_targets, cost_bits}
use Rattle.kinds.specs.Refusal.{Answer, refused, accepted}
use Rattle.kinds.specs.declared.Shape.{Shape}
use Rattle.words.specs.Masks.{wide}
use Rattle.problems.specs.Problem.{problem}
use Rattle.problems.specs.Replies.{PosedFits}
use Rattle.problems.specs.prices.Prices.{PricedProblem, priced_problem, prices}
use Rattle.problems.specs.declared.Posed.{Posed}
use Rattle.problems.specs.declared.Posed.TheVariants as posed

abbrev pub seen_priced : (g t v : List ℕ) → Posed → Answer PricedProblem
seen_priced g t v (posed.Refused e) = refused e
seen_priced g t v (posed.Are c u) = accepted (priced_problem (problem (take c g) (take u t)) (take c v))

pub record Priced (c : ℕ) (v : List ℕ) : Type 0 where
  pub each : length (take c v) ≡ c
  pub narrow : wide cost_bits (take c v) ≡ false

abbrev pub PricesFit : List ℕ → Posed → Type 0
PricesFit v (posed.Refused e) = Unit {0}
PricesFit v (posed.Are c u) = Priced c v

pub record PricedLaid (asked : Answer PricedProblem) (x : Posed) (g t v : List ℕ) : Type 0 where
  pub answer : asked ≡ seen_priced g t v x
  pub room : PosedFits x
  pub fit : PricesFit v x

pub record PricesAsked (shape : Shape) (costs : List ℕ) (c : ℕ) (v : List ℕ) : Type 0 where
  pub each : length (prices shape costs) ≡ c
  pub few : c ≤ most_generators
  pub room : c ≤ length v

pub record Lent (g t v : List ℕ) : Type 0 where
  pub generators : most_generators ≤ length g
  pub targets : most_targets ≤ length t
  pub prices : most_generators ≤ length v

abbrev pub also_refused : ℕ → Posed → Posed
also_refused e (posed.Refused f) = posed.Refused (min e f)
also_refused e (posed.Are c u) = posed.Refused e
