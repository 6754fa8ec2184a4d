-- `residues::take` meets its contract: no number so far with the residue is flagged, and the generators to come, put into the basis so far, make the
-- basis of all.
-- Assumes nothing.
use Rattle.bases.specs.Basis.{rows_of}
use Rattle.residues.proofs.Loops.{Putting}
use Rattle.residues.proofs.take.Given as goal

abbrev pub invariant-loop-i : goal.invariant-loop-i
invariant-loop-i l = Putting l.gens l.h l.x (rows_of l.initial.b) l.b l.i
