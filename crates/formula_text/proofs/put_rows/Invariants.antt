-- `formula_text::put_rows` meets its contract. The invariant: printing the rows that are left gives what printing all does. Assumes nothing.
use Rattle.std.specs.Prelude.{[]}
use Rattle.formula_text.specs.BodyText.{rows_text}
use Rattle.formula_text.specs.laws.Rest.{Rest}
use Rattle.formula_text.specs.laws.Loops.{rows_from}
use Rattle.formula_text.proofs.put_rows.Given as goal

abbrev pub invariant-loop-z : goal.invariant-loop-z
invariant-loop-z l = Rest l.initial.out l.at (rows_text l.zs []) l.out l.e (rows_from l.zs l.z-index)
