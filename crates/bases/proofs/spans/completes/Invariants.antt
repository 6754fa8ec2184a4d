-- `bases::spans::completes` meets its contract. Assumes nothing.
use Rattle.bases.specs.Basis.{rows_of}
use Rattle.bases.proofs.laws.of_spans.Completing.{Completing}
use Rattle.bases.proofs.spans.completes.Given as goal

abbrev pub invariant-loop-i : goal.invariant-loop-i
invariant-loop-i l = Completing l.gens l.w (rows_of l.initial.d) l.start l.d l.i
