-- Rank on numbers.
--   rank_for x prices k old == what is said of the problem x, whose generators have the prices, in a buffer that holds old: refused by 8, or r with the buffer's
--                             content, above, or beyond
--   rank ..                == refused by a number of document 01's list (2 to 9), or that
-- What is written and said: `ranking` (`fewest`). What it means: theorems, catalogue_and_rank. Assumes nothing.
use Rattle.std.specs.Prelude.{not, List, ℕ, eqb}
use Rattle.kinds.specs.Refusal.{Answer, refuse, follow}
use Rattle.problems.specs.Problem.{Problem}
use Rattle.problems.specs.prices.Prices.{priced}
use Rattle.rank.specs.fewest.Fewest.{Ranking, ranking}

-- refusal 8: "k .. is not 0 in a Rank"
unfoldable pub rank_for : Problem → List ℕ → ℕ → List ℕ → Answer Ranking
rank_for x prices k old = refuse 8 (not (eqb k 0)) (ranking x.generators x.targets prices old)

-- of the problem handed in, with the costs of a list: refusals 2 to 7 come first
unfoldable pub rank : (number p q r k : ℕ) (gs ts costs old : List ℕ) → Answer Ranking
rank number p q r k gs ts costs old =
    follow (priced number p q r gs ts costs) λ x. rank_for x.problem x.prices k old
