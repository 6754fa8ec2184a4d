-- `weights::fill` meets its contract: the numbers so far are in the table. Assumes nothing.
use mathlib.Core.Path.{◌≡◌, sym, ◌∙◌}
use mathlib.Core.Logic.{◌⊎◌, ◌≢◌, inl, inr}
use Prim.Native.Nat.{ℕ, ◌≤◌}
use lib.ListN.{get_or}
use Rattle.std.specs.Ordering.{ord_max, nat_cmp}
use Rattle.std.proofs.Common.{rules}
use native.Mathlib.Omega.{arith}
use Rattle.weights.specs.laws.Fill.{blank_slots, blank_all, filling_start, filling_entering, filling_skip, filling_next, filling_end}
use Rattle.weights.proofs.fill.Goals as goal
use Rattle.weights.proofs.fill.Goals.{then-dead-i-eq0+then-d-i-ne0, else-dead-i-eq0}
use Rattle.weights.proofs.fill.Goals.{else-dead-i-eq0-via-then-dead-i-eq0+else-d-i-ne0, else-dead-i-eq0-via-else-dead-i-eq0}

pub loop-i-init : goal.loop-i-init
loop-i-init c =
    let a = c.args in
    let p = c.requires in
    filling_start a.gens.now a.d.now a.start a.dead.now a.s.now a.slots.now a.rows.now a.w.now p

pub bounds-dead-i : goal.bounds-dead-i
bounds-dead-i c =
    let p = c.requires in
    omega (arith, p.dead_all, p.few)

pub enter-requires : goal.enter-requires
enter-requires c =
    let l = c.loop-i in
    let a = c.args in
    filling_entering a.gens.now a.d.now a.start a.dead.now a.s.now l.i l.slots l.rows l.w l.top l.invariant
    (omega arith)

-- what `max` gives: one of the two, and none below either
larger : (a b : ℕ) → (a ≤ ord_max nat_cmp a b) × (b ≤ ord_max nat_cmp a b) × ((ord_max nat_cmp a b ≡ a) ⊎ (ord_max nat_cmp a b ≡ b))
larger a b = search rules

pub loop-i-preserved : goal.loop-i-preserved
loop-i-preserved c =
    let l = c.loop-i in
    let a = c.args in
    let skip = filling_skip a.gens.now a.d.now a.start a.dead.now a.s.now l.i l.slots l.rows l.w l.top l.invariant in
    elim c.if-dead-i-eq0.branch [
      | then-dead-i-eq0+then-d-i-ne0 w ↦
          let E = w.enter in
          let u = larger l.top E.result in
          rw (w.slots-is, w.rows-is, w.w-is, w.top-is, w.max-top.ensures)
          (filling_next a.gens.now a.d.now a.start a.dead.now a.s.now l.i l.slots l.rows l.w l.top l.invariant (omega arith) w.if-d-i-ne0.true E.new.slots
          E.new.rows E.new.w E.result _ E.ensures E.auto.slots E.auto.rows E.auto.w u.0 u.1 u.2)
      | else-dead-i-eq0 w ↦
          let why : (get_or a.dead.now l.i 0 ≢ 0) ⊎ (get_or a.d.now l.i 0 ≡ 0) =
          elim w.else-dead-i-eq0.branch [
            | else-dead-i-eq0-via-then-dead-i-eq0+else-d-i-ne0 v ↦ inr (omega (arith, v.if-d-i-ne0.false))
            | else-dead-i-eq0-via-else-dead-i-eq0 v ↦ inl v.if-dead-i-eq0.false
          ] in
          rw (w.slots-is, w.rows-is, w.w-is, w.top-is) (skip (omega arith) why)
    ]

pub shape_of-slots : goal.shape_of-slots
shape_of-slots c =
    let a = c.args in
    let p = c.requires in
    c.loop-i.invariant.sizes.slots_all ∙ sym
    (blank_slots a.gens.now a.d.now a.start a.dead.now a.s.now a.slots.now a.rows.now a.w.now p)

pub shape_of-rows : goal.shape_of-rows
shape_of-rows c = c.loop-i.invariant.sizes.rows_all ∙ sym c.requires.rows_all

pub shape_of-w : goal.shape_of-w
shape_of-w c =
    let a = c.args in
    let p = c.requires in
    c.loop-i.invariant.sizes.all ∙ sym
    (blank_all a.gens.now a.d.now a.start a.dead.now a.s.now a.slots.now a.rows.now a.w.now p)

pub returns : goal.returns
returns c =
    let l = c.loop-i in
    let a = c.args in
    let p = c.requires in
    filling_end a.gens.now a.d.now a.start a.dead.now a.s.now l.i l.slots l.rows l.w l.top l.invariant
    (omega arith) p.basis (λ n. (c.shared_slice_known-1.given n).fits)
