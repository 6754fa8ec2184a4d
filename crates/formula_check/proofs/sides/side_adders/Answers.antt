-- `formula_check::sides::side_adders` meets its contract: it walks down the masks, and the sum is the adders of those that it has seen. Assumes nothing.
use mathlib.Core.Path.{refl}
use native.Mathlib.Omega.{arith}
use Rattle.formula_check.proofs.laws.of_sides.Sides.{counting_start, counting_entering, counting_next, counting_end}
use Rattle.formula_check.proofs.sides.side_adders.Goals as goal

pub loop-i-init : goal.loop-i-init
loop-i-init c = counting_start _ _ refl

pub mask_adders-sum-requires : goal.mask_adders-sum-requires
mask_adders-sum-requires c =
    let l = c.loop-i in
    let few = c.requires in
    counting_entering _ l.i l.slots l.sum l.invariant c.loop-i-test.true few

pub overflow_add-sum : goal.overflow_add-sum
overflow_add-sum c =
    let few = c.requires in
    let m = c.loop-i.invariant.most in
    let a = c.mask_adders-sum.ensures.most in
    omega arith

pub loop-i-preserved : goal.loop-i-preserved
loop-i-preserved c =
    let l = c.loop-i in
    let r = c.mask_adders-sum in
    counting_next _ l.i l.slots l.sum l.invariant c.loop-i-test.true _ r.result r.ensures

pub returns : goal.returns
returns c = let l = c.loop-i in counting_end _ l.i l.slots l.sum l.invariant c.loop-i-test.false c.requires
