-- `sieve::join::halves` meets its contract: the numbers so far are marked. Assumes nothing.
use Rattle.sieve.specs.join.laws.Join.{Halving}
use Rattle.sieve.proofs.join.halves.Given as goal

abbrev pub invariant-loop-i : goal.invariant-loop-i
invariant-loop-i l = Halving l.start l.n l.left l.gone l.w l.i l.picks
