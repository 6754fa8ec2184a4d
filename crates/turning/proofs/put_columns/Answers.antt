-- `turning::put_columns` meets its contract. Assumes nothing.
use native.Mathlib.Omega.{arith}
use Rattle.turning.specs.Turning.{column}
use Rattle.turning.proofs.laws.Loops.{put_start, put_next, put_end}
use Rattle.turning.proofs.put_columns.Goals as goal

pub loop-l-init : goal.loop-l-init
loop-l-init c = let a = c.args in put_start (column a.masks.now) a.c a.out.now

pub column-requires : goal.column-requires
column-requires c = c.requires.0

pub loop-l-preserved : goal.loop-l-preserved
loop-l-preserved c =
    let a = c.args in
    let l = c.loop-l in
    put_next (column a.masks.now) a.c a.out.now l.out l.l c.column.result l.invariant c.loop-l-test.true
    c.requires.1 c.column.ensures

pub shape_of-out : goal.shape_of-out
shape_of-out c = c.loop-l.invariant.kept

pub returns : goal.returns
returns c =
    let a = c.args in
    let l = c.loop-l in
    put_end (column a.masks.now) a.c a.out.now l.out l.l l.invariant (omega arith)
