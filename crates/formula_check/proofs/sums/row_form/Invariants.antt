-- `formula_check::sums::row_form` meets its contract. Assumes nothing.
use Rattle.std.proofs.Common.{◌≡◌, drop}
use Rattle.std.specs.Int.Bits.{bit_xor}
use Rattle.forms.specs.Row.{row_form}
use Rattle.formula_check.proofs.sums.row_form.Given as goal

abbrev pub invariant-loop-i : goal.invariant-loop-i
invariant-loop-i l = bit_xor l.sum (row_form (drop l.i l.forms) l.row l.i) ≡ row_form l.forms l.row 0
