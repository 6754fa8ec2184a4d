-- `residues::child` meets its contract: the words so far are the residues, cleared. Assumes nothing.
use mathlib.Core.Path.{refl, sym, ◌∙◌}
use Rattle.linear.specs.Basis.{clear}
use Rattle.linear.specs.Word.{word}
use Rattle.residues.proofs.Loops.{mapping_next, mapping_end}
use native.Mathlib.Omega.{arith}
use Rattle.residues.proofs.child.Goals as goal

pub loop-i-init : goal.loop-i-init
loop-i-init c = record { within = omega arith; whole = c.requires.1; done = refl }

pub loop-i-preserved : goal.loop-i-preserved
loop-i-preserved c =
    let a = c.args in
    let l = c.loop-i in
    mapping_next (clear word a.x) a.h.now l.out l.i c.requires.0 l.invariant (omega arith) c.clear.result c.clear.ensures

pub shape_of-out : goal.shape_of-out
shape_of-out c = c.loop-i.invariant.whole ∙ sym c.requires.1

pub returns : goal.returns
returns c = let a = c.args in let l = c.loop-i in mapping_end (clear word a.x) a.h.now l.out l.i l.invariant (omega arith)
