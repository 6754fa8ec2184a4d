-- `cheapest::take_along` meets its contract: what is taken so far in order, and the rest as the choice goes on. Assumes nothing.
use Rattle.cheapest.specs.laws.Taking.{Taking}
use Rattle.cheapest.proofs.take_along.Given as goal

abbrev pub invariant-loop-x : goal.invariant-loop-x
invariant-loop-x l = Taking l.gens l.h l.order l.initial.numbers l.b l.n l.numbers l.x-index
