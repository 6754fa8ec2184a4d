-- `printing::field_lists::put_spaced` meets its contract. Assumes nothing.
use native.Mathlib.Omega.{arith}
use mathlib.Core.Path.{◌∙◌}
use Rattle.printing.specs.field_lists.laws.Inner.{spacing_start, spacing_next, spacing_end}
use Rattle.printing.proofs.field_lists.put_spaced.Goals as goal

pub loop-x-init : goal.loop-x-init
loop-x-init c = spacing_start c.args.xs.now c.args.base c.args.most c.args.out.now c.args.at

pub put_number-e-requires : goal.put_number-e-requires
put_number-e-requires c =
    let pre = c.requires in
    let loop = c.loop-x in
    let S = loop.invariant in
    let a = S.is.after in
    let m = S.is.most in
    let w = S.within in
    let p = pre.place in
    let s = pre.short in
    let b = pre.some in
    let d = pre.small in
    let f = pre.few in
    (b, d, omega arith)

pub loop-x-preserved : goal.loop-x-preserved
loop-x-preserved c =
    let args = c.args in
    let pre = c.requires in
    let loop = c.loop-x in
    let loop-test = c.loop-x-test in
    let put_byte = c.put_byte in
    let put-number = c.put_number-e in
    spacing_next args.xs.now args.base args.most args.out.now args.at loop.out _ _ loop.e _ loop.x-index loop.invariant
    loop-test.true pre.few put_byte.ensures put-number.ensures (put-number.auto.out ∙ put_byte.auto.out)

pub shape_of-out : goal.shape_of-out
shape_of-out c = c.loop-x.invariant.same

pub returns : goal.returns
returns c =
    let args = c.args in
    spacing_end args.xs.now args.base args.most args.out.now args.at c.loop-x.out c.loop-x.e c.loop-x.x-index
    c.loop-x.invariant (omega arith)
