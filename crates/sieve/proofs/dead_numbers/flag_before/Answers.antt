-- `sieve::dead_numbers::flag_before` meets its contract: the flags so far are those of new numbers. Assumes nothing.
use mathlib.Core.Path.{◌≡◌, sym, ◌∙◌, subst}
use Prim.Native.Nat.{ℕ}
use native.Mathlib.Omega.{arith}
use Rattle.sieve.specs.dead_numbers.Dead.{FlaggedBefore}
use Rattle.sieve.specs.dead_numbers.laws.Dead.{flag_start, flag_on, flag_off}
use Rattle.sieve.proofs.dead_numbers.flag_before.Goals as goal
use Rattle.sieve.proofs.dead_numbers.flag_before.Goals.{then-h-i-ne0, else-h-i-ne0}

pub loop-i-init : goal.loop-i-init
loop-i-init c = (flag_start c.args.h.now c.args.flags.now c.requires.2, omega arith)

pub bounds-flags-i : goal.bounds-flags-i
bounds-flags-i c = omega (arith, c.loop-i.invariant.0.whole)

pub loop-i-preserved : goal.loop-i-preserved
loop-i-preserved c =
    let l = c.loop-i in
    elim c.if-h-i-ne0.branch [
      | then-h-i-ne0 w ↦ rw (w.flags-is) (flag_on c.args.h.now l.i l.flags l.invariant.0 w.if-h-i-ne0.true, omega arith)
      | else-h-i-ne0 w ↦ rw (w.flags-is) (flag_off c.args.h.now l.i l.flags l.invariant.0, omega arith)
    ]

pub shape_of-flags : goal.shape_of-flags
shape_of-flags c =
    c.loop-i.invariant.0.whole ∙ sym (flag_start c.args.h.now c.args.flags.now c.requires.2).whole

pub returns : goal.returns
returns c =
    let l = c.loop-i in
    let e : l.i ≡ c.args.start = omega arith in
    subst (λ (n : ℕ). FlaggedBefore c.args.h.now n l.flags) e l.invariant.0
