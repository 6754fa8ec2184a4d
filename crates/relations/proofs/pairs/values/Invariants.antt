-- `relations::pairs::values` meets its contract: the numbers so far have their values. Assumes nothing.
use Rattle.relations.specs.pairs.laws.Values.{Valuing}
use Rattle.relations.proofs.pairs.values.Given as goal

abbrev pub invariant-loop-i : goal.invariant-loop-i
invariant-loop-i l = Valuing l.d l.start l.w l.gone l.i l.v
