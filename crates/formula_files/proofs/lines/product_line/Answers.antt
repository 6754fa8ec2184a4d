-- `formula_files::lines::product_line` meets its contract. Assumes nothing.
use Rattle.std.proofs.Common.{arith}
use Rattle.text.specs.Line.{mask_line}
use Rattle.text.specs.laws.Line.{read_at, fits_at, field_at}
use Rattle.formula_files.specs.lines.laws.Loops.{product_first, product_second, product_is}
use Rattle.formula_files.proofs.lines.product_line.Goals as goal

pub returns-in_err-x : goal.returns-in_err-x
returns-in_err-x c = rw c.from_residual.ensures (product_first _ c.in_err-x.ensures.0, omega arith)

pub returns-in_err-y : goal.returns-in_err-y
returns-in_err-y c =
    rw c.from_residual-in_err-y.ensures
    (product_second _ _ _ c.in_ok-x.ensures.0 (read_at mask_line c.args.s.now c.in_ok-x.used _ c.in_err-y.ensures.0), omega arith)

pub returns : goal.returns
returns c = (
  product_is _ _ _ _ _ c.in_ok-x.ensures.0 (field_at mask_line c.args.s.now c.in_ok-x.used _ c.in_ok-y.v c.in_ok-y.ensures.0),
  fits_at c.args.s.now c.in_ok-x.used c.in_ok-y.v c.in_ok-x.ensures.1 c.in_ok-y.ensures.1,
)
