-- `problem_files::list_lines::read_roles` meets its contract. Assumes nothing.
use Rattle.std.specs.Prelude.{◌≡◌}
use Rattle.std.proofs.Common.{◌∙◌, arith}
use Rattle.text.specs.laws.Line.{read_at, field_at, fits_at}
use Rattle.problem_files.specs.list_lines.Roles.{role_line}
use Rattle.problem_files.proofs.laws.of_list_lines.Loop.{roles_start, roles_turn, roles_stop, roles_end}
use Rattle.problem_files.proofs.list_lines.read_roles.Goals as goal

pub loop-i-init : goal.loop-i-init
loop-i-init c = (omega arith, roles_start _ _ _ _)

pub returns-in_err-form : goal.returns-in_err-form
returns-in_err-form c =
    let s = c.args.s.now in
    let at = c.loop-i.at in
    let no = read_at (role_line c.args.role c.args.most) s at _ c.in_err-form.ensures.0 in
    rw c.from_residual.ensures (c.loop-i.invariant.1 ∙ roles_stop _ _ _ at _ s _ _ c.loop-i-test.true no, omega arith)

pub loop-i-preserved : goal.loop-i-preserved
loop-i-preserved c =
    let s = c.args.s.now in
    let at = c.loop-i.at in
    let line = field_at (role_line c.args.role c.args.most) s at _ c.in_ok-form.used c.in_ok-form.ensures.0 in (
      fits_at s at c.in_ok-form.used c.loop-i.invariant.0 c.in_ok-form.ensures.1,
      c.loop-i.invariant.1 ∙ roles_turn _ _ _ at _ s _ _ _ _ _ c.loop-i-test.true (omega arith) (omega arith) line,
    )

pub returns : goal.returns
returns c =
    let e : c.loop-i.i ≡ c.args.n = omega arith in
    (c.loop-i.invariant.1 ∙ roles_end _ _ _ _ _ _ _ e, c.loop-i.invariant.0)
