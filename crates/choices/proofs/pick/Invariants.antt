-- `choices::pick` meets its contract. Assumes nothing.
use Rattle.choices.specs.laws.Picking.{Picked}
use Rattle.choices.proofs.pick.Given as goal

abbrev pub invariant-loop-x : goal.invariant-loop-x
invariant-loop-x l = Picked l.gens l.numbers l.c l.x-index
