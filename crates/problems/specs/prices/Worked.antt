-- Refusals of small problems with costs, by computing.
--   costs_refused a list of 2 bits with the generators 1 and 2: the order of the refusals
-- Assumes nothing.
use Rattle.std.specs.Prelude.{◌≡◌, refl, List, [], ◌∷◌, ℕ}
use Rattle.kinds.specs.Kinds.{kind_numbered}
use Rattle.kinds.specs.Sizes.{within, list_sizes}
use Rattle.kinds.specs.Refusal.{Answer, refused, accepted}
use Rattle.linear.specs.Select.{any_of}
use Rattle.words.specs.Masks.{wide, zero_in}
use Rattle.words.specs.lists.Lists.{repeats}
use Rattle.problems.specs.Problem.{problem, listed, shaped}
use Rattle.problems.specs.prices.Prices.{unpriced, prices, PricedProblem, priced_problem, priced_shape, priced}

-- the list of 2 bits with the target 3, its number of generators, they, and their costs
abbrev asked : ℕ → (gs costs : List ℕ) → Answer PricedProblem
asked q gs costs = priced 4 2 q 1 gs (3 ∷ []) costs

-- taken; a cost too few, and a cost of 17 bits: 5; the same before a bit outside (6) and a zero (7), which are refused where the costs are not; behind 4 and 3
costs_refused :
    (asked 2 (1 ∷ 2 ∷ []) (65535 ∷ 0 ∷ []) ≡ accepted (priced_problem (problem (1 ∷ 2 ∷ []) (3 ∷ [])) (65535 ∷ 0 ∷ [])))
    × (asked 2 (1 ∷ 2 ∷ []) (0 ∷ []) ≡ refused 5)
    × (asked 2 (1 ∷ 2 ∷ []) (0 ∷ 65536 ∷ []) ≡ refused 5)
    × (asked 2 (1 ∷ 4 ∷ []) (0 ∷ 65536 ∷ []) ≡ refused 5)
    × (asked 2 (1 ∷ 4 ∷ []) (0 ∷ 0 ∷ []) ≡ refused 6)
    × (asked 2 (1 ∷ 0 ∷ []) (0 ∷ []) ≡ refused 5)
    × (asked 2 (1 ∷ 0 ∷ []) (0 ∷ 0 ∷ []) ≡ refused 7)
    × (asked 4096 [] (65536 ∷ []) ≡ refused 4)
    × (asked 0 [] (65536 ∷ []) ≡ refused 3)
unfolding priced priced_shape unpriced prices shaped listed kind_numbered within list_sizes wide zero_in repeats any_of
costs_refused = (refl, refl, refl, refl, refl, refl, refl, refl, refl)
