-- `sieve::join::join` meets its contract: the numbers so far are judged. Assumes nothing.
use Prim.Native.Nat.{◌-◌}
use lib.ListN.{length}
use Rattle.sieve.specs.join.laws.Join.{Walked}
use Rattle.sieve.proofs.join.join.Given as goal

abbrev pub invariant-loop-i : goal.invariant-loop-i
invariant-loop-i l = Walked l.d l.start l.x l.left l.gone l.slots l.w l.i l.picks l.some

abbrev pub decreases-loop-i : goal.decreases-loop-i
decreases-loop-i l = length l.d - l.i
