-- `choices::choose` meets its contract: what is chosen among the generators looked at, and the rest as the greedy choice goes on. Assumes nothing.
use Rattle.choices.specs.Choice.{marked}
use Rattle.choices.specs.laws.Choosing.{Choosing}
use Rattle.choices.proofs.choose.Given as goal

abbrev pub invariant-loop-i : goal.invariant-loop-i
invariant-loop-i l = Choosing l.gens (marked l.marks) l.b l.c l.i
