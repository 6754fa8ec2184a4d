-- `formula_files::lines::rows_part` meets its contract. Assumes nothing.
use Rattle.std.specs.Prelude.{false}
use Rattle.text.specs.laws.Line.{read_at}
use Rattle.formula_files.specs.lines.Buffered.{rows_from}
use Rattle.formula_files.specs.lines.laws.Body.{rows_unnamed, rows_short, rows_more, rows_are, rows_at, ended_not, ended_yes}
use Rattle.formula_files.proofs.lines.rows_part.Goals as goal

pub returns-in_err-used : goal.returns-in_err-used
returns-in_err-used c = rw c.from_residual.ensures (rows_unnamed _ _ _ _ c.in_err-used.ensures.0)

pub returns-in_err-rows : goal.returns-in_err-rows
returns-in_err-rows c =
    let args = c.args in
    let no = read_at (λ x. rows_from args.k args.t x 0 args.d.now false) args.s.now c.in_ok-used.used _ c.in_err-rows.ensures.0 in
    rw c.from_residual-in_err-rows.ensures (rows_short _ _ _ _ _ c.in_ok-used.ensures.0 no)

pub returns-then-e-s : goal.returns-then-e-s
returns-then-e-s c =
    rows_more _ _ _ _ _ _ _ _ c.in_ok-used.ensures.0
    (rows_at c.args.s.now c.in_ok-used.used _ _ _ _ c.in_ok-rows.rows.used _ c.in_ok-rows.ensures.0) (ended_not _ _ c.if-e-s.true)

pub returns : goal.returns
returns c =
    rows_are _ _ _ _ _ _ _ _ c.in_ok-used.ensures.0
    (rows_at c.args.s.now c.in_ok-used.used _ _ _ _ c.in_ok-rows.rows.used _ c.in_ok-rows.ensures.0) (ended_yes _ _ c.if-e-s.false)
