-- `weights::fill` meets its contract: the numbers so far are in the table. Assumes nothing.
use Rattle.weights.specs.laws.Fill.{Filling}
use Rattle.weights.proofs.fill.Given as goal

abbrev pub invariant-loop-i : goal.invariant-loop-i
invariant-loop-i l = Filling l.gens l.d l.start l.dead l.s l.i l.slots l.rows l.w l.top
