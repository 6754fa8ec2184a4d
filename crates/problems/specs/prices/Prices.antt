-- A problem with a price for each generator: what is handed in, and by which number of the list it is refused.
--   unpriced shape costs            == the costs handed in are not as many as the kind hands in, or one has more than 16 bits
--   map_prices sizes                 == the prices of a map's generators, by its sizes
--   prices shape costs              == the prices of the generators: of a list the costs handed in, of a map those of its generators' numbers
--   PricedProblem                   == a problem, and the prices of its generators in order
--   priced_problem P v               == the problem P with the prices v
--   priced_shape shape gs ts costs   == the problem of that kind and sizes with its prices: refusals 3 to 7, or what it is
--   priced number p q r gs ts costs == the problem of the kind with that number, likewise: refusals 2 to 7, or what it is
-- Document 02: "Every menu form now carries a cost from 0 to 65,535"; "Elsewhere the cost is the ones in both factors less 2." Costs of the wrong number, and
-- a larger cost, are refused by 5, as a list of forms of the wrong length is. Theorems: Theorems. Assumes nothing.
use Rattle.std.specs.Prelude.{Bool, not, ◌||◌, cond, List, [], ℕ, length, eqb, Option, None, Some}
use Rattle.kinds.specs.Kinds.{kind_numbered, is_list, handed}
use Rattle.kinds.specs.Limits.{cost_bits}
use Rattle.kinds.specs.Sizes.{shape_of, sizes}
use Rattle.kinds.specs.Refusal.{Answer, accepted, need, follow, also}
use Rattle.kinds.specs.declared.Shape.{Shape}
use Rattle.words.specs.Masks.{wide}
use Rattle.maps.specs.Costs.{generator_costs}
use Rattle.problems.specs.Problem.{Problem, shaped}

-- refusal 5: "in calls on numbers, a list handed in has the wrong length"
unfoldable pub unpriced : Shape → List ℕ → Bool
unpriced shape costs = not (eqb (length costs) (handed shape.kind shape.q)) || wide cost_bits costs

-- of the generators in n and m variables; none where a size misfits
abbrev pub map_prices : Option (ℕ × ℕ × ℕ) → List ℕ
map_prices None = []
map_prices (Some z) = generator_costs z.0 z.1

unfoldable pub prices : Shape → List ℕ → List ℕ
prices shape costs = cond (is_list shape.kind) costs (map_prices (sizes shape))

pub record PricedProblem : Type 0 where
  pub problem : Problem
  pub prices : List ℕ

abbrev pub priced_problem : Problem → List ℕ → PricedProblem
priced_problem P v = record { problem = P; prices = v }

unfoldable pub priced_shape : Shape → (gs ts costs : List ℕ) → Answer PricedProblem
priced_shape shape gs ts costs =
    follow (also 5 (unpriced shape costs) (shaped shape gs ts [])) λ P. accepted (priced_problem P (prices shape costs))

unfoldable pub priced : (number p q r : ℕ) (gs ts costs : List ℕ) → Answer PricedProblem
priced number p q r gs ts costs = need 2 (kind_numbered number) λ kd. priced_shape (shape_of kd p q r) gs ts costs
