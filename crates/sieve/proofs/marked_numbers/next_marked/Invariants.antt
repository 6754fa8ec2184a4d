-- `sieve::marked_numbers::next_marked` meets its contract: no number so far is marked. Assumes nothing.
use Rattle.sieve.specs.marked_numbers.laws.Marks.{Searching, Unmarked}
use Rattle.sieve.proofs.marked_numbers.next_marked.Given as goal

abbrev pub invariant-loop-j : goal.invariant-loop-j
invariant-loop-j l = Searching Unmarked l.marks l.from l.n l.j
