-- `records::count` meets its contract, case by case. Assumes nothing.
use native.Mathlib.Omega.{arith}
use mathlib.Core.Path.{◌≡◌}
use Prim.Native.Nat.{◌+◌}
use mir.Syntax.{w64}
use mir.Val.{Fits}
use Rattle.records.specs.declared.Tally.{Tally}
use Rattle.records.specs.Keep.{Counting}
use Rattle.records.specs.laws.Counted.{counted_full, counted_short, counted_fits}
use Rattle.records.proofs.count.Goals as goal

-- no count wraps
module _ {t : Tally} {limit room : _} (K : Counting t limit room) (n : t.found ≡ limit → ⊥) (l : Fits w64 limit) where
  found_fits : Fits w64 (t.found + 1)
  found_fits = record { fits = omega (arith, K.limited, l.fits) }

  shown-fits : Fits w64 (t.shown + 1)
  shown-fits = record { fits = omega (arith, K.limited, K.fewer, l.fits) }

pub returns-then-t-limit : goal.returns-then-t-limit
returns-then-t-limit c =
    let args = c.args in
    counted_full args.limit args.t args.size args.room c.if-t-limit.true

pub overflow_sub-room : goal.overflow_sub-room
overflow_sub-room c = c.requires.inside

pub overflow_add-result : goal.overflow_add-result
overflow_add-result c =
    let the-fits = c.ranges in
    let pre = c.requires in
    let if1 = c.if-t-limit in
    found_fits pre if1.false the-fits.limit

pub returns-then-room-t : goal.returns-then-room-t
returns-then-room-t c =
    let args = c.args in
    let pre = c.requires in
    let if1 = c.if-t-limit in
    counted_short args.limit args.t args.size args.room if1.false (omega (arith, c.if-room-t.true, pre.inside))

pub overflow_add-result-2 : goal.overflow_add-result-2
overflow_add-result-2 c =
    let the-fits = c.ranges in
    let pre = c.requires in
    let if1 = c.if-t-limit in
    found_fits pre if1.false the-fits.limit

pub overflow_add-result-3 : goal.overflow_add-result-3
overflow_add-result-3 c =
    let the-fits = c.ranges in
    let pre = c.requires in
    let if1 = c.if-t-limit in
    shown-fits pre if1.false the-fits.limit

pub overflow_add-result-4 : goal.overflow_add-result-4
overflow_add-result-4 c =
    let args = c.args in
    let the-fits = c.ranges in
    let pre = c.requires in
    let if2 = c.if-room-t in
    let r : Fits w64 args.room = the-fits.room in record { fits = omega (arith, if2.false, pre.inside, r.fits) }

pub returns : goal.returns
returns c =
    let args = c.args in
    let pre = c.requires in
    let if1 = c.if-t-limit in
    let if2 = c.if-room-t in
    counted_fits args.limit args.t args.size args.room if1.false (omega (arith, if2.false, pre.inside))
