-- `formula_text::put_rows` meets its contract. Assumes nothing.
use Rattle.std.specs.Prelude.{[]}
use Rattle.std.proofs.Common.{arith}
use Rattle.formula_text.specs.BodyText.{rows_text}
use Rattle.formula_text.specs.laws.Rest.{rest_start}
use Rattle.formula_text.specs.laws.Loops.{rows_next, rows_place, rows_end}
use Rattle.formula_text.proofs.put_rows.Goals as goal

pub loop-z-init : goal.loop-z-init
loop-z-init c = rest_start c.args.out.now c.args.at (rows_text c.args.zs.now [])

pub put_row-e-requires : goal.put_row-e-requires
put_row-e-requires c =
    let loop = c.loop-z in
    omega (arith, c.requires, rows_place c.args.zs.now c.args.out.now c.args.at loop.out loop.e loop.z-index loop.invariant)

pub loop-z-preserved : goal.loop-z-preserved
loop-z-preserved c =
    let loop = c.loop-z in
    rows_next c.args.zs.now c.args.out.now c.args.at loop.out _ loop.e _ loop.z-index c.loop-z-test.true loop.invariant c.put_row-e.ensures

pub returns : goal.returns
returns c =
    let loop = c.loop-z in
    rows_end c.args.zs.now c.args.out.now c.args.at loop.out loop.e loop.z-index (omega arith) loop.invariant
