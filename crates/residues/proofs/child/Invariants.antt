-- `residues::child` meets its contract: the words so far are the residues, cleared. Assumes nothing.
use Rattle.linear.specs.Basis.{clear}
use Rattle.linear.specs.Word.{word}
use Rattle.residues.proofs.Loops.{Mapping}
use Rattle.residues.proofs.child.Given as goal

abbrev pub invariant-loop-i : goal.invariant-loop-i
invariant-loop-i l = Mapping (clear word l.x) l.h l.out l.i
