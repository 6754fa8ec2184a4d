-- `formula_files::lines::read_body` meets its contract. Assumes nothing.
use Rattle.text.specs.laws.Line.{read_at}
use Rattle.formula_files.specs.lines.Buffered.{rows_part}
use Rattle.formula_files.specs.lines.laws.Body.{run_1, run_2, run_is}
use Rattle.formula_files.proofs.lines.read_body.Goals as goal

pub returns-in_err-products : goal.returns-in_err-products
returns-in_err-products c = rw c.from_residual.ensures (run_1 _ _ _ _ _ _ _ _ c.in_err-products.ensures.0)

pub returns-in_err-wide : goal.returns-in_err-wide
returns-in_err-wide c =
    let args = c.args in
    let no = read_at (λ x. rows_part args.k args.t x args.d.now) args.s.now c.in_ok-products.products.used _ c.in_err-wide.ensures in
    rw c.from_residual-in_err-wide.ensures (run_2 _ _ _ _ _ _ _ _ _ _ _ _ _ c.in_ok-products.ensures.0 no)

pub returns-then-products : goal.returns-then-products
returns-then-products c =
    let args = c.args in
    let rows = read_at (λ x. rows_part args.k args.t x args.d.now) args.s.now c.in_ok-products.products.used _ c.in_ok-wide.ensures in
    run_is _ _ _ _ _ _ _ _ _ _ _ _ _ _ _ _ c.in_ok-products.ensures.0 rows (rw c.if-products.true)

pub returns-else-products : goal.returns-else-products
returns-else-products c =
    let args = c.args in
    let rows = read_at (λ x. rows_part args.k args.t x args.d.now) args.s.now c.in_ok-products.products.used _ c.in_ok-wide.ensures in
    run_is _ _ _ _ _ _ _ _ _ _ _ _ _ _ _ _ c.in_ok-products.ensures.0 rows (rw c.if-products.false)
