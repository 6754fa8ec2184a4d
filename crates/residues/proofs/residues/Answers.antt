-- `residues::residues` meets its contract: the words so far are the residues. Assumes nothing.
use mathlib.Core.Path.{refl}
use Rattle.linear.specs.Basis.{reduce}
use Rattle.linear.specs.Word.{word}
use Rattle.bases.specs.Basis.{rows_of}
use Rattle.residues.proofs.Loops.{mapping_next, mapping_end}
use native.Mathlib.Omega.{arith}
use Rattle.residues.proofs.residues.Goals as goal

pub loop-i-init : goal.loop-i-init
loop-i-init c = record { within = omega arith; whole = c.requires.2; done = refl }

pub reduce-requires : goal.reduce-requires
reduce-requires c = c.requires.0

pub loop-i-preserved : goal.loop-i-preserved
loop-i-preserved c =
    let l = c.loop-i in
    mapping_next (reduce word (rows_of c.args.b)) c.args.gens.now l.out l.i c.requires.1 l.invariant (omega arith) c.reduce.result c.reduce.ensures

pub returns : goal.returns
returns c = let l = c.loop-i in mapping_end (reduce word (rows_of c.args.b)) c.args.gens.now l.out l.i l.invariant (omega arith)
