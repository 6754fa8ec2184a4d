-- `text::heads::head_lines` meets its contract. Assumes nothing.
use Rattle.std.proofs.Common.{◌∙◌, arith}
use Rattle.text.specs.heads.Head.{head_line}
use Rattle.text.specs.laws.Line.{read_at, fits_at, field_at}
use Rattle.text.specs.heads.laws.Head.{heads_name, heads_is}
use Rattle.text.proofs.heads.head_lines.Goals as goal

pub returns-in_err-used : goal.returns-in_err-used
returns-in_err-used c = rw c.from_residual.ensures (heads_name _ c.in_err-used.ensures.0, omega arith)

pub returns-in_err-head : goal.returns-in_err-head
returns-in_err-head c =
    rw c.from_residual-in_err-head.ensures
    (heads_is _ _ c.in_ok-used.ensures.0 ∙ read_at head_line c.args.s.now c.in_ok-used.used _ c.in_err-head.ensures.0, omega arith)

pub returns : goal.returns
returns c =
    let s = c.args.s.now in
    let u = c.in_ok-used.used in
    let h = c.in_ok-head.head in (
      heads_is _ _ c.in_ok-used.ensures.0 ∙ field_at head_line s u _ h.used c.in_ok-head.ensures.0,
      fits_at s u h.used c.in_ok-used.ensures.1 c.in_ok-head.ensures.1,
    )
