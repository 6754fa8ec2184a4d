-- `cheapest::total` meets its contract: the prices so far, and those to come. Assumes nothing.
use native.Mathlib.Omega.{arith}
use Rattle.cheapest.specs.laws.Totals.{summing_start, number_there, summing_small, summing_next, summing_end}
use Rattle.cheapest.proofs.total.Goals as goal

pub loop-x-init : goal.loop-x-init
loop-x-init c = summing_start c.args.prices.now c.args.numbers.now

pub offset_bounds-prices-x : goal.offset_bounds-prices-x
offset_bounds-prices-x c =
    let args = c.args in
    let pre = c.requires in
    let loop = c.loop-x in
    omega (arith, number_there args.prices.now args.numbers.now pre loop.sum loop.x-index loop.invariant (omega arith))

pub bounds-prices-x : goal.bounds-prices-x
bounds-prices-x c =
    let args = c.args in
    let pre = c.requires in
    let loop = c.loop-x in
    omega (arith, number_there args.prices.now args.numbers.now pre loop.sum loop.x-index loop.invariant (omega arith))

pub overflow_add-sum : goal.overflow_add-sum
overflow_add-sum c =
    let args = c.args in
    let pre = c.requires in
    let loop = c.loop-x in
    omega (arith, summing_small args.prices.now args.numbers.now pre loop.sum loop.x-index loop.invariant (omega arith))

pub loop-x-preserved : goal.loop-x-preserved
loop-x-preserved c =
    let args = c.args in
    let pre = c.requires in
    let loop = c.loop-x in
    summing_next args.prices.now args.numbers.now pre loop.sum loop.x-index loop.invariant (omega arith)

pub returns : goal.returns
returns c =
    let args = c.args in
    let loop = c.loop-x in
    summing_end args.prices.now args.numbers.now loop.sum loop.x-index loop.invariant (omega arith)
