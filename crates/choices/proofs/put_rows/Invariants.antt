-- `choices::put_rows` meets its contract: what was taken from a target by the reduced products is its row. Assumes nothing.
use Rattle.bases.specs.rows.Rows.{row_of}
use Rattle.choices.specs.laws.Writing.{Writing}
use Rattle.choices.proofs.put_rows.Given as goal

abbrev pub invariant-loop-i : goal.invariant-loop-i
invariant-loop-i l = Writing (row_of l.products) l.targets l.initial.out l.at l.out l.i
