-- `forms::reduce_rows` meets its contract: what the rows from a place on leave of x is what all the rows leave of v. Assumes nothing.
use Rattle.std.proofs.Common.{◌≡◌, drop}
use Rattle.linear.specs.Basis.{reduce}
use Rattle.linear.specs.Word.{word}
use Rattle.forms.proofs.reduce_rows.Given as goal

abbrev pub invariant-loop-row : goal.invariant-loop-row
invariant-loop-row l = reduce word (drop l.row-index l.rows) l.x ≡ reduce word l.rows l.v
