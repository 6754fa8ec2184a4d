-- `formula_files::lines::read_rows` meets its contract. Assumes nothing.
use Rattle.std.specs.Prelude.{◌≡◌}
use Rattle.std.proofs.Common.{◌∙◌, arith}
use Rattle.text.specs.Line.{mask_line}
use Rattle.text.specs.laws.Line.{read_at, fits_at, field_at}
use Rattle.formula_files.specs.lines.laws.Loops.{rows_turn, rows_stop, rows_end}
use Rattle.formula_files.proofs.lines.read_rows.Goals as goal

pub returns-in_err-x : goal.returns-in_err-x
returns-in_err-x c =
    let s = c.args.s.now in
    let at = c.loop-i.at in
    rw c.from_residual.ensures
    (c.loop-i.invariant.1 ∙ rows_stop _ _ at _ s _ _ c.loop-i-test.true (read_at mask_line s at _ c.in_err-x.ensures.0), omega arith)

pub loop-i-preserved : goal.loop-i-preserved
loop-i-preserved c =
    let s = c.args.s.now in
    let at = c.loop-i.at in
    let line = field_at mask_line s at _ c.in_ok-x.used c.in_ok-x.ensures.0 in (
      fits_at s at c.in_ok-x.used c.loop-i.invariant.0 c.in_ok-x.ensures.1,
      c.loop-i.invariant.1 ∙ rows_turn _ _ at _ s _ _ _ _ _ _ c.loop-i-test.true line c.put_word.ensures c.wider-wide.ensures,
    )

pub returns : goal.returns
returns c =
    let e : c.loop-i.i ≡ c.args.t = omega arith in
    (c.loop-i.invariant.1 ∙ rows_end _ _ _ _ _ _ e, c.loop-i.invariant.0)
