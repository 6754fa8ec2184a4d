-- `weights::enter` meets its contract, by the law of each way through it. Assumes nothing.
use mathlib.Core.Path.{sym, ◌∙◌}
use mathlib.Core.Logic.{◌≢◌}
use Prim.Native.Nat.{ℕ, ◌+◌, ◌-◌, ◌<◌}
use native.Mathlib.Omega.{arith}
use lib.ListN.{length, get_or}
use Rattle.weights.specs.laws.Enter.{enter_slots, enter_number, enter_some, enter_grow, entered_none, entered_first, entered_more}
use Rattle.residues.specs.Room.{search_room}
use Rattle.weights.proofs.enter.Goals as goal
use Rattle.std.specs.Prelude.{List}
use Rattle.weights.specs.Enter.{Entering}

-- the number that the slot has is in every list, and has a weight
held : (gens d s : List ℕ) (i : ℕ) (slots rows w : List ℕ) (E : Entering gens d i slots rows w) (q : ℕ) → get_or slots q 0 ≢ 0
    → let g = get_or slots q 0 - 1 in (g < search_room) × (g < length gens) × (g < length w) × (get_or w g 0 ≢ 0)
held gens d s i slots rows w E q n =
    let l = enter_number gens d s i slots rows w E q n in
    let h = E.inside in
    let z = E.sizes in
    (omega arith, omega arith, omega arith, enter_some gens d s i slots rows w E q n)

pub seek-q-requires : goal.seek-q-requires
seek-q-requires c =
    let a = c.args in
    let p = c.requires in
    enter_slots a.gens.now a.d.now a.s.now a.i a.slots.now a.rows.now a.w.now p

pub returns-then-q-eq-SLOTS : goal.returns-then-q-eq-SLOTS
returns-then-q-eq-SLOTS c =
    let a = c.args in
    let p = c.requires in
    entered_none a.gens.now a.d.now a.s.now a.i a.slots.now a.rows.now a.w.now p
    (sym c.seek-q.ensures.0 ∙ c.if-q-eq-SLOTS.true)

pub returns-then-f-eq0 : goal.returns-then-f-eq0
returns-then-f-eq0 c =
    let q = c.seek-q in
    let a = c.args in
    let p = c.requires in
    entered_first a.gens.now a.d.now a.s.now a.i a.slots.now a.rows.now a.w.now p q.result q.ensures.0
    q.ensures.1 c.if-q-eq-SLOTS.false c.if-f-eq0.true

pub offset_bounds-gens-g : goal.offset_bounds-gens-g
offset_bounds-gens-g c = omega (arith, (held c.args.gens.now c.args.d.now c.args.s.now c.args.i c.args.slots.now c.args.rows.now c.args.w.now c.requires c.seek-q.result c.if-f-eq0.false).0)

pub bounds-gens-g : goal.bounds-gens-g
bounds-gens-g c = (held c.args.gens.now c.args.d.now c.args.s.now c.args.i c.args.slots.now c.args.rows.now c.args.w.now c.requires c.seek-q.result c.if-f-eq0.false).1

pub bounds-w-g : goal.bounds-w-g
bounds-w-g c = (held c.args.gens.now c.args.d.now c.args.s.now c.args.i c.args.slots.now c.args.rows.now c.args.w.now c.requires c.seek-q.result c.if-f-eq0.false).2

pub overflow_sub-w : goal.overflow_sub-w
overflow_sub-w c = omega (arith, (held c.args.gens.now c.args.d.now c.args.s.now c.args.i c.args.slots.now c.args.rows.now c.args.w.now c.requires c.seek-q.result c.if-f-eq0.false).3)

pub grow-r-requires : goal.grow-r-requires
grow-r-requires c =
    enter_grow c.args.gens.now c.args.d.now c.args.s.now c.args.i c.args.slots.now c.args.rows.now c.args.w.now c.requires c.seek-q.result c.if-f-eq0.false

pub bounds-w-g-2 : goal.bounds-w-g-2
bounds-w-g-2 c = (held c.args.gens.now c.args.d.now c.args.s.now c.args.i c.args.slots.now c.args.rows.now c.args.w.now c.requires c.seek-q.result c.if-f-eq0.false).2

pub returns : goal.returns
returns c =
    let r = c.grow-r in
    let q = c.seek-q in
    let a = c.args in
    let g = get_or a.slots.now q.result 0 - 1 in
    entered_more a.gens.now a.d.now a.s.now a.i a.slots.now a.rows.now a.w.now c.requires q.result g
    (get_or a.w.now g 0 - 1) q.ensures.0 (let n : get_or a.slots.now q.result 0 ≢ 0 = c.if-f-eq0.false in omega arith)
    (let n : get_or a.w.now g 0 ≢ 0 = (held c.args.gens.now c.args.d.now c.args.s.now c.args.i c.args.slots.now c.args.rows.now c.args.w.now c.requires c.seek-q.result c.if-f-eq0.false).3 in omega arith)
    r.new.rows r.result r.ensures (r.result + 1) (omega arith)
