-- `formula_check::first_wrong` meets its contract. Assumes nothing.
use Rattle.std.proofs.Common.{sym, ◌∙◌, length, arith}
use Rattle.formula_check.specs.Formula.{first_wrong}
use Rattle.formula_check.proofs.laws.Loops.{wrong_here, wrong_later, wrong_end}
use Rattle.formula_check.proofs.first_wrong.Goals as goal

pub row_form-requires : goal.row_form-requires
row_form-requires c = c.requires.few

pub target-requires : goal.target-requires
target-requires c = record { outputs = length c.args.rows.now; sized = c.requires.sized; asked = omega arith }

pub returns-then-row_form-target : goal.returns-then-row_form-target
returns-then-row_form-target c =
    let a = c.args in
    let l = c.loop-t in
    wrong_here a.shape a.n a.m a.forms.now a.rows.now l.t (first_wrong a.shape a.n a.m a.forms.now a.rows.now 0) (omega arith)
    l.invariant (λ e. c.if-row_form-target.true (c.row_form.ensures ∙ e ∙ sym c.target.ensures))

pub loop-t-preserved : goal.loop-t-preserved
loop-t-preserved c =
    let a = c.args in
    let l = c.loop-t in
    wrong_later a.shape a.n a.m a.forms.now a.rows.now l.t (first_wrong a.shape a.n a.m a.forms.now a.rows.now 0) (omega arith)
    l.invariant (sym c.row_form.ensures ∙ c.if-row_form-target.false ∙ c.target.ensures)

pub returns : goal.returns
returns c =
    let a = c.args in
    wrong_end a.shape a.n a.m a.forms.now a.rows.now c.loop-t.t (first_wrong a.shape a.n a.m a.forms.now a.rows.now 0) (omega arith)
    c.loop-t.invariant
