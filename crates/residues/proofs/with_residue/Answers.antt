-- `residues::with_residue` meets its contract: the generators to come, put into the basis so far, make the basis of all. Assumes nothing.
use mathlib.Core.Path.{sym, subst}
use lib.ListN.{length}
use Prim.Native.Nat.{◌+◌, ◌<◌}
use Rattle.bases.specs.Basis.{rows_of}
use Rattle.bases.specs.declared.Basis.{Basis}
use Rattle.residues.proofs.Loops.{Putting, putting_start, putting_in, putting_out, putting_end}
use native.Mathlib.Omega.{arith}
use Rattle.residues.proofs.with_residue.Goals as goal
use Rattle.residues.proofs.with_residue.Goals.{else-h-i, then-h-i}

pub loop-i-init : goal.loop-i-init
loop-i-init c = putting_start c.args.gens.now c.args.h.now c.args.x c.args.s c.requires.0

pub insert-b-requires : goal.insert-b-requires
insert-b-requires c = c.loop-i.invariant.valid

pub loop-i-preserved : goal.loop-i-preserved
loop-i-preserved c =
    let l = c.loop-i in
    let a = c.args in
    let g : l.i < length a.gens.now = omega arith in
    elim c.if-h-i.branch [
      | then-h-i w ↦
          subst (λ (b : Basis). Putting a.gens.now a.h.now a.x (rows_of a.s) b (l.i + 1)) (sym w.b-is)
          (putting_in a.gens.now a.h.now a.x (rows_of a.s) c.requires.1 l.b l.i l.invariant g w.if-h-i.true w.insert-b.result w.insert-b.ensures)
      | else-h-i w ↦
          subst (λ (b : Basis). Putting a.gens.now a.h.now a.x (rows_of a.s) b (l.i + 1)) (sym w.b-is)
          (putting_out a.gens.now a.h.now a.x (rows_of a.s) c.requires.1 l.b l.i l.invariant g w.if-h-i.false)
    ]

pub returns : goal.returns
returns c = let l = c.loop-i in let a = c.args in putting_end a.gens.now a.h.now a.x (rows_of a.s) l.b l.i l.invariant (omega arith)
