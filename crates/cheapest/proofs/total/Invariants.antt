-- `cheapest::total` meets its contract: the prices so far, and those to come. Assumes nothing.
use Rattle.cheapest.specs.laws.Totals.{Summing}
use Rattle.cheapest.proofs.total.Given as goal

abbrev pub invariant-loop-x : goal.invariant-loop-x
invariant-loop-x l = Summing l.prices l.numbers l.sum l.x-index
