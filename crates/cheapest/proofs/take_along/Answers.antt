-- `cheapest::take_along` meets its contract: what is taken so far in order, and the rest as the choice goes on. Assumes nothing.
use mathlib.Core.Path.{sym, ◌∙◌}
use native.Mathlib.Omega.{arith}
use borrow.Author.Tests.{eq-eqb, ne_eqb}
use lib.ListN.{length}
use Rattle.words.specs.laws.Masks.{below_at}
use Rattle.cheapest.specs.laws.Taking.{taking_start, taking_failed, taking_spanned, taking_room, taking_take, taking_end}
use Rattle.cheapest.proofs.take_along.Goals as goal
use Rattle.cheapest.proofs.take_along.Goals.{then-h-j-eq0+then-not-contains, else-h-j-eq0}
use Rattle.cheapest.proofs.take_along.Goals.{else-h-j-eq0-via-then-h-j-eq0+else-not-contains, else-h-j-eq0-via-else-h-j-eq0}

pub loop-x-init : goal.loop-x-init
loop-x-init c =
    let args = c.args in
    let empty = c.empty-b in
    taking_start args.gens.now args.h.now args.order.now args.numbers.now _ empty.ensures

pub offset_bounds-gens-j : goal.offset_bounds-gens-j
offset_bounds-gens-j c = omega (arith, (below_at (length c.args.gens.now) c.args.order.now c.loop-x.x-index c.requires.0.numbers (omega arith)))

pub bounds-gens-j : goal.bounds-gens-j
bounds-gens-j c = omega (arith, (below_at (length c.args.gens.now) c.args.order.now c.loop-x.x-index c.requires.0.numbers (omega arith)))

pub offset_bounds-h-j : goal.offset_bounds-h-j
offset_bounds-h-j c = omega (arith, (below_at (length c.args.gens.now) c.args.order.now c.loop-x.x-index c.requires.0.numbers (omega arith)))

pub bounds-h-j : goal.bounds-h-j
bounds-h-j c =
    omega (arith, c.requires.0.words, (below_at (length c.args.gens.now) c.args.order.now c.loop-x.x-index c.requires.0.numbers (omega arith)))

pub contains-requires : goal.contains-requires
contains-requires c =
    let loop = c.loop-x in
    loop.invariant.valid

pub insert-b-requires : goal.insert-b-requires
insert-b-requires c =
    let loop = c.loop-x in
    loop.invariant.valid

pub place-requires : goal.place-requires
place-requires c =
    let pre = c.requires in
    let loop = c.loop-x in
    let if1 = c.if-h-j-eq0 in
    let contains = c.contains in
    let if2 = c.if-not-contains in
    let insert = c.insert-b in
    taking_room loop.invariant (omega arith) (eq-eqb _ 0 if1.true) (sym contains.ensures ∙ if2.true)
    insert.ensures pre.1

pub overflow_add-n : goal.overflow_add-n
overflow_add-n c =
    let loop = c.loop-x in
    let e = loop.invariant.even in
    let r = loop.invariant.valid.room in
    omega arith

pub loop-x-preserved : goal.loop-x-preserved
loop-x-preserved c =
    let pre = c.requires in
    let loop = c.loop-x in
    elim c.if-h-j-eq0.branch [
      | then-h-j-eq0+then-not-contains w ↦
          rw (w.b-is, w.n-is, w.numbers-is)
          (taking_take loop.invariant (omega arith) (eq-eqb _ 0 w.if-h-j-eq0.true) (sym w.contains.ensures ∙ w.if-not-contains.true)
          w.insert-b.ensures pre.1 pre.0 w.place.ensures)
      | else-h-j-eq0 w ↦
          rw (w.b-is, w.n-is, w.numbers-is)
          (elim w.else-h-j-eq0.branch [
            | else-h-j-eq0-via-then-h-j-eq0+else-not-contains k ↦
                taking_spanned loop.invariant (omega arith) (eq-eqb _ 0 k.if-h-j-eq0.true)
                (sym k.contains.ensures ∙ k.if-not-contains.false)
            | else-h-j-eq0-via-else-h-j-eq0 k ↦ taking_failed loop.invariant (omega arith) (ne_eqb _ 0 k.if-h-j-eq0.false)
          ])
    ]

pub shape_of-numbers : goal.shape_of-numbers
shape_of-numbers c = c.loop-x.invariant.same

pub returns : goal.returns
returns c =
    let pre = c.requires in
    let loop = c.loop-x in
    taking_end loop.invariant (omega arith) pre.1
