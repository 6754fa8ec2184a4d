-- `sieve::dead_numbers::flag_before` meets its contract: the flags so far are those of new numbers. Assumes nothing.
use Prim.Native.Nat.{◌≤◌}
use Rattle.sieve.specs.dead_numbers.Dead.{FlaggedBefore}
use Rattle.sieve.proofs.dead_numbers.flag_before.Given as goal

abbrev pub invariant-loop-i : goal.invariant-loop-i
invariant-loop-i l = FlaggedBefore l.h l.i l.flags × (l.i ≤ l.start)
