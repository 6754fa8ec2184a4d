-- `weights::weight_of` meets its contract, by what the slot has. Assumes nothing.
use Prim.Native.Nat.{◌-◌}
use native.Mathlib.Omega.{arith}
use lib.ListN.{get_or}
use Rattle.weights.specs.laws.Seek.{read_none, read_free, read_number}
use Rattle.weights.proofs.weight_of.Goals as goal

pub returns-then-q-eq-SLOTS : goal.returns-then-q-eq-SLOTS
returns-then-q-eq-SLOTS c =
    let q = c.seek-q in
    let a = c.args in
    read_none a.slots.now a.d.now a.w.now a.x q.result q.ensures.0
    (λ n. omega (arith, c.shared_slice_known-3-1.given n)) c.if-q-eq-SLOTS.true

pub overflow_cast-f : goal.overflow_cast-f
overflow_cast-f c = omega (arith, c.shared_slice_known-4-1.given c.seek-q.result)

pub returns-then-f-eq0 : goal.returns-then-f-eq0
returns-then-f-eq0 c =
    let q = c.seek-q in
    let a = c.args in
    read_free a.slots.now a.d.now a.w.now a.x q.result q.ensures.0
    (λ n. omega (arith, c.shared_slice_known-3-1.given n)) c.if-q-eq-SLOTS.false c.if-f-eq0.true

pub bounds-w-f : goal.bounds-w-f
bounds-w-f c =
    let p = c.requires in
    omega (arith, p.0.number c.seek-q.result, p.1)

pub overflow_cast-result : goal.overflow_cast-result
overflow_cast-result c =
    let a = c.args in
    omega (arith, c.shared_slice_known-5-1.given (get_or a.slots.now c.seek-q.result 0 - 1))

pub returns : goal.returns
returns c =
    let q = c.seek-q in
    let a = c.args in
    read_number a.slots.now a.d.now a.w.now a.x q.result q.ensures.0
    (λ n. omega (arith, c.shared_slice_known-3-1.given n)) c.if-q-eq-SLOTS.false
    c.if-f-eq0.false
