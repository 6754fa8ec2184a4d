-- `relations::rows::next_filled` meets its contract: no number so far has a bucket with a pair. Assumes nothing.
use Rattle.relations.specs.rows.laws.Filled.{Filling}
use Rattle.relations.proofs.rows.next_filled.Given as goal

abbrev pub invariant-loop-h : goal.invariant-loop-h
invariant-loop-h l = Filling l.v l.n l.heads l.x l.from l.h
