-- `choices::pick` meets its contract. Assumes nothing.
use native.Mathlib.Omega.{arith}
use native.Mathlib.Numerals.{add-one}
use mathlib.Core.Path.{refl, sym, subst}
use lib.ListN.{length}
use Rattle.words.specs.laws.Masks.{below_at}
use Rattle.choices.specs.laws.Picking.{Picked, picked_start, picked_next, picked_end, picked_room}
use Rattle.choices.proofs.pick.Goals as goal

pub loop-x-init : goal.loop-x-init
loop-x-init c =
    let args = c.args in
    picked_start args.gens.now args.numbers.now _ (record { numbers = refl; forms = refl; room = omega arith }) refl

pub offset_bounds-gens-j : goal.offset_bounds-gens-j
offset_bounds-gens-j c =
    let args = c.args in
    let pre = c.requires in
    let loop = c.loop-x in
    let h = below_at (length args.gens.now) args.numbers.now loop.x-index pre.2 (omega arith) in
    let l = pre.0 in
    omega arith

pub bounds-gens-j : goal.bounds-gens-j
bounds-gens-j c =
    let args = c.args in
    let pre = c.requires in
    let loop = c.loop-x in
    below_at (length args.gens.now) args.numbers.now loop.x-index pre.2 (omega arith)

pub add-c-requires : goal.add-c-requires
add-c-requires c =
    let args = c.args in
    let pre = c.requires in
    let loop = c.loop-x in
    (loop.invariant.1.whole, picked_room args.gens.now args.numbers.now loop.c loop.x-index loop.invariant (omega arith) pre.1)

pub loop-x-preserved : goal.loop-x-preserved
loop-x-preserved c =
    let args = c.args in
    let loop = c.loop-x in
    subst (Picked args.gens.now args.numbers.now c.add-c.result) (sym (add-one loop.x-index))
    (picked_next args.gens.now args.numbers.now loop.c c.add-c.result loop.x-index loop.invariant (omega arith) c.add-c.ensures)

pub returns : goal.returns
returns c =
    let args = c.args in
    picked_end args.gens.now args.numbers.now c.loop-x.c c.loop-x.x-index c.loop-x.invariant (omega arith)
