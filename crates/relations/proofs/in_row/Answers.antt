-- `relations::in_row` meets its contract: no relation of the row so far is passed. Assumes nothing.
use mathlib.Core.Path.{refl}
use mathlib.Core.Bool.{false}
use native.Mathlib.Omega.{arith}
use Rattle.relations.specs.laws.Places.{going_start, values_of, chain_asked, row_bare, row_found, row_next, row_end}
use Rattle.relations.proofs.in_row.Goals as goal

pub offset_bounds-v-g : goal.offset_bounds-v-g
offset_bounds-v-g c = omega (arith, c.requires.2, c.requires.0.tables.sizes.few)

pub bounds-v-g : goal.bounds-v-g
bounds-v-g c =
    let pre = c.requires in
    omega (arith, pre.2, pre.0.tables.sizes.few, pre.0.tables.sizes.values_all)

pub overflow_add-result : goal.overflow_add-result
overflow_add-result c = omega (arith, c.requires.0.tables.sizes.few)

pub returns-then-x-eq0 : goal.returns-then-x-eq0
returns-then-x-eq0 c =
    let a = c.args in
    let u = a.u in
    row_bare a.gens.now a.s.now a.v.now u.base u.g u.h u.e a.heads.now a.links.now c.if-x-eq0.true _ refl refl refl refl

pub loop-h-init : goal.loop-h-init
loop-h-init c =
    let a = c.args in
    let u = a.u in
    let pre = c.requires in
    going_start a.gens.now a.s.now a.v.now false u.base u.g u.h u.e a.heads.now a.links.now pre.0

pub value_at-requires : goal.value_at-requires
value_at-requires c =
    let a = c.args in
    let pre = c.requires in
    values_of a.gens.now a.v.now a.heads.now a.links.now pre.0.tables.sizes

pub offset_bounds-gens-g : goal.offset_bounds-gens-g
offset_bounds-gens-g c =
    let pre = c.requires in
    omega (arith, pre.2, pre.0.tables.sizes.few)

pub bounds-gens-g : goal.bounds-gens-g
bounds-gens-g c = omega (arith, c.requires.2)

pub next_match-e-requires : goal.next_match-e-requires
next_match-e-requires c =
    let a = c.args in
    let u = a.u in
    let l = c.loop-h in
    let pre = c.requires in
    chain_asked a.gens.now a.s.now a.v.now u.base u.g u.h u.e a.heads.now a.links.now l.h l.e l.invariant pre.1
    c.value_at.result c.value_at.ensures

pub returns-then-e-ne0 : goal.returns-then-e-ne0
returns-then-e-ne0 c =
    let a = c.args in
    let u = a.u in
    let l = c.loop-h in
    let pre = c.requires in
    let value-at = c.value_at in
    let form-at = c.form_at in
    let next-match = c.next_match-e in
    let loop-test = c.loop-h-test in
    row_found a.gens.now a.s.now a.v.now u.base u.g u.h u.e a.heads.now a.links.now l.h l.e l.invariant pre.1
    value-at.result form-at.result next-match.result value-at.ensures form-at.ensures next-match.ensures
    loop-test.true c.if-e-ne0.true _ refl refl refl refl

pub overflow_add-h : goal.overflow_add-h
overflow_add-h c =
    let loop-test = c.loop-h-test in
    let pre = c.requires in
    omega (arith, loop-test.true, pre.0.tables.sizes.few)

pub next_filled-h-requires : goal.next_filled-h-requires
next_filled-h-requires c =
    let a = c.args in
    let pre = c.requires in
    let loop-test = c.loop-h-test in (
      values_of a.gens.now a.v.now a.heads.now a.links.now pre.0.tables.sizes,
      pre.0.tables.sizes.heads_all,
      omega (arith, loop-test.true),
    )

pub head_at-e-requires : goal.head_at-e-requires
head_at-e-requires c =
    let a = c.args in
    let pre = c.requires in
    (values_of a.gens.now a.v.now a.heads.now a.links.now pre.0.tables.sizes, pre.0.tables.sizes.heads_all)

pub loop-h-smaller : goal.loop-h-smaller
loop-h-smaller c = omega (arith, c.loop-h-test.true, c.next_filled-h.ensures.low)

pub loop-h-preserved : goal.loop-h-preserved
loop-h-preserved c =
    let a = c.args in
    let u = a.u in
    let l = c.loop-h in
    let pre = c.requires in
    let value-at = c.value_at in
    let form-at = c.form_at in
    let next-match = c.next_match-e in
    let next-filled = c.next_filled-h in
    let loop-test = c.loop-h-test in
    row_next a.gens.now a.s.now a.v.now u.base u.g u.h u.e a.heads.now a.links.now l.h l.e l.invariant pre.1
    value-at.result form-at.result next-match.result value-at.ensures form-at.ensures next-match.ensures
    loop-test.true pre.2 c.if-e-ne0.false next-filled.result c.head_at-e.result next-filled.ensures c.head_at-e.ensures

pub returns : goal.returns
returns c =
    let a = c.args in
    let u = a.u in
    let l = c.loop-h in
    let pre = c.requires in
    row_end a.gens.now a.s.now a.v.now u.base u.g u.h u.e a.heads.now a.links.now l.h l.e l.invariant pre.1
    c.loop-h-test.false _ refl refl refl refl
