-- `problem_files::list_lines::form_and_cost` meets its contract. Assumes nothing.
use Rattle.std.proofs.Common.{arith}
use Rattle.text.specs.laws.Line.{read_at, field_at, fits_at}
use Rattle.problem_files.specs.list_lines.Roles.{cost_line}
use Rattle.problem_files.proofs.laws.of_list_lines.Line.{form_not, cost_not, cost_above, form_is}
use Rattle.problem_files.proofs.list_lines.form_and_cost.Goals as goal

pub returns-in_err-form : goal.returns-in_err-form
returns-in_err-form c = rw c.from_residual.ensures (form_not _ _ c.in_err-form.ensures.0, omega arith)

pub returns-in_err-cost : goal.returns-in_err-cost
returns-in_err-cost c =
    let cost = read_at cost_line c.args.s.now c.in_ok-form.used _ c.in_err-cost.ensures.0 in
    rw c.from_residual-in_err-cost.ensures (cost_not _ _ _ _ c.in_ok-form.ensures.0 cost, omega arith)

pub returns-then-most-cost : goal.returns-then-most-cost
returns-then-most-cost c =
    let cost = field_at cost_line c.args.s.now c.in_ok-form.used _ c.in_ok-cost.v c.in_ok-cost.ensures.0 in
    (cost_above _ _ _ _ _ _ c.in_ok-form.ensures.0 cost c.if-most-cost.true, omega arith)

pub returns : goal.returns
returns c =
    let s = c.args.s.now in
    let cost = field_at cost_line s c.in_ok-form.used _ c.in_ok-cost.v c.in_ok-cost.ensures.0 in
    (form_is _ _ _ _ _ _ c.in_ok-form.ensures.0 cost c.if-most-cost.false, fits_at s _ _ c.in_ok-form.ensures.1 c.in_ok-cost.ensures.1)
