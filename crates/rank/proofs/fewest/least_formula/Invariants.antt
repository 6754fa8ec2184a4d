-- `rank::fewest::least_formula` meets its contract: no number of dimensions below k has an entry. Assumes nothing.
use mathlib.Core.Path.{◌≡◌}
use lib.ListN.{length}
use Rattle.rank.proofs.laws.of_fewest.Least.{Looking}
use Rattle.rank.proofs.fewest.least_formula.Given as goal

abbrev pub invariant-loop-k : goal.invariant-loop-k
invariant-loop-k l = (length l.held ≡ length l.initial.held) × Looking l.gens l.b l.order l.prices l.k
