-- `relations::in_block` meets its contract: no relation of the block so far is passed. Assumes nothing.
use mathlib.Core.Path.{refl}
use native.Mathlib.Omega.{arith}
use Rattle.relations.specs.laws.Places.{going_start, block_inside, block_found, block_next, block_end}
use Rattle.relations.proofs.in_block.Goals as goal

pub loop-p-init : goal.loop-p-init
loop-p-init c =
    let a = c.args in
    let u = a.u in
    let pre = c.requires in
    (going_start a.gens.now a.s.now a.v.now a.lines u.base u.g u.h u.e a.heads.now a.links.now pre.0, refl)

pub in_row-r-requires : goal.in_row-r-requires
in_row-r-requires c =
    let pre = c.requires in
    (c.loop-p.invariant.0.asked, block_inside c.loop-p.invariant.1 pre.1, c.loop-p-test.true)

pub returns-then-r-ne0 : goal.returns-then-r-ne0
returns-then-r-ne0 c =
    let a = c.args in
    let u = a.u in
    let l = c.loop-p in
    let p = l.p in
    block_found a.gens.now a.s.now a.v.now a.lines u.base u.g u.h u.e a.heads.now a.links.now p.base p.g p.h
    p.e l.invariant.1 l.invariant.0 c.in_row-r.result c.in_row-r.ensures c.if-r-ne0.true

pub overflow_add-g : goal.overflow_add-g
overflow_add-g c =
    let if1 = c.loop-p-test in
    let pre = c.requires in
    omega (arith, if1.true, pre.0.tables.sizes.few)

pub before_row-requires : goal.before_row-requires
before_row-requires c =
    let if1 = c.loop-p-test in
    (omega (arith, if1.true), omega (arith, if1.true))

pub loop-p-smaller : goal.loop-p-smaller
loop-p-smaller c = omega (arith, c.loop-p-test.true)

pub loop-p-preserved : goal.loop-p-preserved
loop-p-preserved c =
    let a = c.args in
    let u = a.u in
    let l = c.loop-p in
    let p = l.p in
    let in_row = c.in_row-r in
    let if1 = c.loop-p-test in
    block_next a.gens.now a.s.now a.v.now a.lines u.base u.g u.h u.e a.heads.now a.links.now p.base p.g p.h
    p.e l.invariant.1 l.invariant.0 in_row.result in_row.ensures if1.true c.if-r-ne0.false c.before_row.result
    c.before_row.ensures u.base l.invariant.1

pub returns : goal.returns
returns c =
    let a = c.args in
    let u = a.u in
    let l = c.loop-p in
    let p = l.p in
    block_end a.gens.now a.s.now a.v.now a.lines u.base u.g u.h u.e a.heads.now a.links.now p.base p.g p.h
    p.e l.invariant.1 l.invariant.0 c.loop-p-test.false _ refl refl refl refl
