-- `residues::residues` meets its contract: the words so far are the residues. Assumes nothing.
use Rattle.linear.specs.Basis.{reduce}
use Rattle.linear.specs.Word.{word}
use Rattle.bases.specs.Basis.{rows_of}
use Rattle.residues.proofs.Loops.{Mapping}
use Rattle.residues.proofs.residues.Given as goal

abbrev pub invariant-loop-i : goal.invariant-loop-i
invariant-loop-i l = Mapping (reduce word (rows_of l.b)) l.gens l.out l.i
