-- `formula_check::sides::mask_adders` meets its contract, by the law of each way through it. Assumes nothing.
use mathlib.Core.Path.{◌≡◌, sym, ap, ◌∙◌, subst}
use mathlib.Core.Logic.{◌≢◌}
use Prim.Native.Nat.{ℕ, ◌+◌, ◌-◌, ◌<◌}
use native.Mathlib.Omega.{arith}
use lib.ListN.{get_or, set}
use Rattle.formula_check.specs.sides.Sides.{mask_slots, MaskAdded}
use Rattle.formula_check.proofs.laws.of_sides.Sides.{numbered, mask_sought, added_light, added_known, added_again, added_lone, added_new}
use Rattle.formula_check.proofs.sides.mask_adders.Goals as goal

-- ---- behind the search
pub returns-then-w-lt2 : goal.returns-then-w-lt2
returns-then-w-lt2 c =
    let a = c.args in
    let e = c.ones-w.ensures in
    let t = c.if-w-lt2.true in
    added_light a.masks.now a.i a.slots.now c.requires (omega arith)

pub seek-q-requires : goal.seek-q-requires
seek-q-requires c =
    let a = c.args in
    let p = c.requires in
    (numbered a.masks.now (a.i + 1) a.slots.now p.after, omega (arith, p.after.whole, c.first_slot.ensures.1))

pub returns-then-stands_from : goal.returns-then-stands_from
returns-then-stands_from c =
    let a = c.args in
    let again = sym c.stands_from.ensures ∙ c.if-stands_from.true in
    added_again a.masks.now a.i a.slots.now c.requires (sym ((let a = c.args in let f = c.first_slot in let whole = c.requires.after.whole in
    mask_sought a.slots.now a.masks.now (get_or a.masks.now a.i 0) f.result c.seek-q.result whole f.ensures.0 c.seek-q.ensures.0)) ∙
    c.if-q-eq-SLOTS.true) again

pub returns-else-stands_from : goal.returns-else-stands_from
returns-else-stands_from c =
    let a = c.args in
    let w = c.ones-w in
    let lone = sym c.stands_from.ensures ∙ c.if-stands_from.false in
    added_lone a.masks.now a.i a.slots.now c.requires (sym ((let a = c.args in let f = c.first_slot in let whole = c.requires.after.whole in
    mask_sought a.slots.now a.masks.now (get_or a.masks.now a.i 0) f.result c.seek-q.result whole f.ensures.0 c.seek-q.ensures.0)) ∙
    c.if-q-eq-SLOTS.true) lone (w.result - 1)
    (ap (λ (n : ℕ). n - 1) w.ensures)

pub returns-then-slots-q-ne0 : goal.returns-then-slots-q-ne0
returns-then-slots-q-ne0 c =
    let a = c.args in
    added_known a.masks.now a.i a.slots.now c.requires (subst (λ (q : ℕ). get_or a.slots.now q 0 ≢ 0) ((let a = c.args in let f = c.first_slot in
    let whole = c.requires.after.whole in
    mask_sought a.slots.now a.masks.now (get_or a.masks.now a.i 0) f.result c.seek-q.result whole f.ensures.0 c.seek-q.ensures.0))
    c.if-slots-q-ne0.true)

pub returns : goal.returns
returns c =
    let a = c.args in
    let w = c.ones-w in
    let heavy = c.if-w-lt2.false in
    let most = c.seek-q.ensures.1 in
    let whole = c.requires.after.whole in
    let inside = c.if-q-eq-SLOTS.false in
    let e = w.ensures in
    subst (λ (q : ℕ). MaskAdded a.masks.now a.i (set a.slots.now q (a.i + 1)) (w.result - 1)) (sym ((let a = c.args in let f = c.first_slot in
    let whole = c.requires.after.whole in
    mask_sought a.slots.now a.masks.now (get_or a.masks.now a.i 0) f.result c.seek-q.result whole f.ensures.0 c.seek-q.ensures.0)))
    (added_new a.masks.now a.i a.slots.now c.requires (omega arith) (subst (λ (q : ℕ). q < mask_slots) ((let a = c.args in let f = c.first_slot in
    let whole = c.requires.after.whole in
    mask_sought a.slots.now a.masks.now (get_or a.masks.now a.i 0) f.result c.seek-q.result whole f.ensures.0 c.seek-q.ensures.0)) (omega arith))
    (subst (λ (q : ℕ). get_or a.slots.now q 0 ≡ 0) ((let a = c.args in let f = c.first_slot in let whole = c.requires.after.whole in
    mask_sought a.slots.now a.masks.now (get_or a.masks.now a.i 0) f.result c.seek-q.result whole f.ensures.0 c.seek-q.ensures.0))
    c.if-slots-q-ne0.false) (w.result - 1) (ap (λ (n : ℕ). n - 1) e))
