-- `bases::basis_of` meets its contract: the vectors to come, put into the basis so far, make the basis of all. Assumes nothing.
use native.Mathlib.Omega.{arith}
use Rattle.bases.proofs.Growing.{basing_start, basing_next, basing_end}
use Rattle.bases.proofs.basis_of.Goals as goal

pub loop-x-init : goal.loop-x-init
loop-x-init c = basing_start c.args.xs.now c.empty-b.result c.empty-b.ensures

pub insert-b-requires : goal.insert-b-requires
insert-b-requires c = c.loop-x.invariant.valid

pub loop-x-preserved : goal.loop-x-preserved
loop-x-preserved c =
    let l = c.loop-x in
    basing_next c.args.xs.now l.b l.x-index l.invariant (omega arith) c.insert-b.result c.insert-b.ensures

pub returns : goal.returns
returns c = let l = c.loop-x in basing_end c.args.xs.now l.b l.x-index l.invariant (omega arith)
