-- `formula_check::sums::row_form` meets its contract. Assumes nothing.
use Rattle.std.proofs.Common.{arith}
use Rattle.std.specs.Int.Bits.{xor_zero_l}
use Rattle.forms.specs.Row.{row_form}
use Rattle.formula_check.proofs.laws.of_sums.Loops.{row_set, row_unset, row_end}
use Rattle.formula_check.proofs.sums.row_form.Goals as goal
use Rattle.formula_check.proofs.sums.row_form.Goals.{else-row-i-eq1, then-row-i-eq1}

pub loop-i-init : goal.loop-i-init
loop-i-init c = xor_zero_l (row_form c.args.forms.now c.args.row 0)

pub loop-i-preserved : goal.loop-i-preserved
loop-i-preserved c =
    let fs = c.args.forms.now in
    let row = c.args.row in
    let l = c.loop-i in
    elim c.if-row-i-eq1.branch [
      | then-row-i-eq1 w ↦ rw w.sum-is (row_set fs row l.i l.sum (row_form fs row 0) (omega arith) l.invariant w.if-row-i-eq1.true)
      | else-row-i-eq1 w ↦ rw w.sum-is (row_unset fs row l.i l.sum (row_form fs row 0) (omega arith) l.invariant w.if-row-i-eq1.false)
    ]

pub returns : goal.returns
returns c =
    let a = c.args in
    row_end a.forms.now a.row c.loop-i.i c.loop-i.sum (row_form a.forms.now a.row 0) (omega arith) c.loop-i.invariant
