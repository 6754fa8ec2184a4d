-- `relations::seek` meets its contract: no relation so far is passed. Assumes nothing.
use mathlib.Core.Path.{sym, ◌∙◌}
use native.Mathlib.Omega.{arith}
use Rattle.relations.specs.laws.Places.{going_start, seek_found, seek_next, seek_end}
use Rattle.relations.proofs.seek.Goals as goal

pub loop-p-init : goal.loop-p-init
loop-p-init c =
    let a = c.args in
    let u = a.u in
    let pre = c.requires in
    going_start a.gens.now a.s.now a.v.now a.lines u.base u.g u.h u.e a.heads.now a.links.now (pre)

pub in_block-r-requires : goal.in_block-r-requires
in_block-r-requires c = (c.loop-p.invariant.asked, c.loop-p-test.true)

pub shape_of-heads-then-r-ne0 : goal.shape_of-heads-then-r-ne0
shape_of-heads-then-r-ne0 c =
    let loop = c.loop-p in
    let pre = c.requires in
    loop.invariant.asked.tables.sizes.heads_all ∙ sym pre.tables.sizes.heads_all

pub shape_of-links-then-r-ne0 : goal.shape_of-links-then-r-ne0
shape_of-links-then-r-ne0 c =
    let loop = c.loop-p in
    let pre = c.requires in
    loop.invariant.asked.tables.sizes.links_all ∙ sym pre.tables.sizes.links_all

pub returns-then-r-ne0 : goal.returns-then-r-ne0
returns-then-r-ne0 c =
    let a = c.args in
    let l = c.loop-p in
    let p = l.p in
    seek_found a.gens.now a.s.now a.v.now a.lines a.u l.heads l.links p.base p.g p.h p.e l.invariant
    c.in_block-r.result c.in_block-r.ensures c.if-r-ne0.true

pub overflow_add-base : goal.overflow_add-base
overflow_add-base c =
    let if1 = c.loop-p-test in
    let pre = c.requires in
    omega (arith, if1.true, pre.tables.sizes.few)

pub table-requires : goal.table-requires
table-requires c = c.loop-p.invariant.asked.tables.sizes

pub loop-p-smaller : goal.loop-p-smaller
loop-p-smaller c = omega (arith, c.loop-p-test.true)

pub loop-p-preserved : goal.loop-p-preserved
loop-p-preserved c =
    let a = c.args in
    let l = c.loop-p in
    let p = l.p in
    let t = c.table in
    let in_block = c.in_block-r in
    let if1 = c.loop-p-test in
    let if2 = c.if-r-ne0 in
    seek_next a.gens.now a.s.now a.v.now a.lines a.u l.heads l.links p.base p.g p.h p.e l.invariant
    in_block.result in_block.ensures if1.true if2.false t.new.heads t.new.links t.ensures

pub shape_of-heads : goal.shape_of-heads
shape_of-heads c =
    let pre = c.requires in
    c.loop-p.invariant.asked.tables.sizes.heads_all ∙ sym pre.tables.sizes.heads_all

pub shape_of-links : goal.shape_of-links
shape_of-links c =
    let pre = c.requires in
    c.loop-p.invariant.asked.tables.sizes.links_all ∙ sym pre.tables.sizes.links_all

pub returns : goal.returns
returns c =
    let a = c.args in
    let l = c.loop-p in
    let p = l.p in
    seek_end a.gens.now a.s.now a.v.now a.lines a.u l.heads l.links p l.invariant c.loop-p-test.false
