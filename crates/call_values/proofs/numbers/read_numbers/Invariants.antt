-- `call_values::numbers::read_numbers`: places stay in the buffer. Assumes nothing.
use Rattle.std.specs.Prelude.{◌≤◌, length}
use Rattle.call_values.proofs.numbers.read_numbers.Given as goal

abbrev pub invariant-loop-b : goal.invariant-loop-b
invariant-loop-b l = l.at ≤ length l.out
