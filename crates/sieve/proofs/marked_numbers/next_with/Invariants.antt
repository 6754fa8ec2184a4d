-- `sieve::marked_numbers::next_with` meets its contract: no number so far has the mark. Assumes nothing.
use Rattle.sieve.specs.marked_numbers.laws.Marks.{Searching, Without}
use Rattle.sieve.proofs.marked_numbers.next_with.Given as goal

abbrev pub invariant-loop-i : goal.invariant-loop-i
invariant-loop-i l = Searching (Without l.mark) l.marks l.from l.n l.i
