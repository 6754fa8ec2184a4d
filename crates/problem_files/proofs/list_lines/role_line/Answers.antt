-- `problem_files::list_lines::role_line` meets its contract. Assumes nothing.
use Rattle.std.proofs.Common.{◌∙◌, arith}
use Rattle.text.specs.laws.Line.{read_at, field_at, fits_at}
use Rattle.problem_files.specs.list_lines.Roles.{form_and_cost}
use Rattle.problem_files.proofs.laws.of_list_lines.Line.{role_short, role_other, role_comma, role_is}
use Rattle.problem_files.proofs.list_lines.role_line.Goals as goal
use Rattle.problem_files.proofs.list_lines.role_line.Goals.{then-s-lt2-via-then-s-lt2, then-s-lt2-via-else-s-lt2+then-s-role}
use Rattle.problem_files.proofs.list_lines.role_line.Goals.{then-s-lt2-via-else-s-lt2+else-s-role+then-s-ne44}

pub returns-then-s-lt2 : goal.returns-then-s-lt2
returns-then-s-lt2 c =
    let s = c.args.s.now in
    elim c.then-s-lt2.branch [
      | then-s-lt2-via-then-s-lt2 w ↦ (role_short _ _ s w.if-s-lt2.true, omega arith)
      | then-s-lt2-via-else-s-lt2+then-s-role w ↦ (role_other _ _ s w.if-s-role.true, omega arith)
      | then-s-lt2-via-else-s-lt2+else-s-role+then-s-ne44 w ↦ (role_comma _ _ s w.if-s-role.false w.if-s-ne44.true, omega arith)
    ]

pub returns-in_err-form : goal.returns-in_err-form
returns-in_err-form c =
    let s = c.args.s.now in
    let line = role_is c.args.role c.args.most s c.if-s-lt2.false c.if-s-role.false c.if-s-ne44.false in
    rw c.from_residual.ensures (line ∙ read_at (form_and_cost c.args.most) s 2 _ c.in_err-form.ensures.0, omega arith)

pub returns : goal.returns
returns c =
    let s = c.args.s.now in
    let line = role_is c.args.role c.args.most s c.if-s-lt2.false c.if-s-role.false c.if-s-ne44.false in
    (line ∙ field_at (form_and_cost c.args.most) s 2 _ c.in_ok-form.used c.in_ok-form.ensures.0, fits_at s 2 _ c.if-s-lt2.false c.in_ok-form.ensures.1)
