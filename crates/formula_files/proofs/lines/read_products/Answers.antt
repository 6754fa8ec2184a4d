-- `formula_files::lines::read_products` meets its contract. Assumes nothing.
use Rattle.std.specs.Prelude.{◌≡◌}
use Rattle.std.proofs.Common.{◌∙◌, arith}
use Rattle.text.specs.laws.Line.{read_at, fits_at}
use Rattle.formula_files.specs.lines.Formula.{product_line}
use Rattle.formula_files.specs.lines.laws.Loops.{products_turn, products_stop, products_end, product_at}
use Rattle.formula_files.proofs.lines.read_products.Goals as goal

pub returns-in_err-x : goal.returns-in_err-x
returns-in_err-x c =
    let s = c.args.s.now in
    let at = c.loop-i.at in
    let no = read_at product_line s at _ c.in_err-x.ensures.0 in
    rw c.from_residual.ensures (c.loop-i.invariant.1 ∙ products_stop _ _ _ at _ s _ _ _ _ c.loop-i-test.true no, omega arith)

pub loop-i-preserved : goal.loop-i-preserved
loop-i-preserved c =
    let s = c.args.s.now in
    let at = c.loop-i.at in
    let line = product_at s at _ _ c.in_ok-x.used c.in_ok-x.ensures.0 in (
      fits_at s at c.in_ok-x.used c.loop-i.invariant.0 c.in_ok-x.ensures.1,
      c.loop-i.invariant.1 ∙ products_turn _ _ _ at _ s _ _ _ _ _ _ _ _ _ _ _ _ _ c.loop-i-test.true line c.put_word.ensures c.put_word-in-loop-i.ensures
          c.wider.ensures c.wider-wide.ensures c.nil.ensures c.nil-zero.ensures,
    )

pub returns : goal.returns
returns c =
    let e : c.loop-i.i ≡ c.args.k = omega arith in
    (c.loop-i.invariant.1 ∙ products_end _ _ _ _ _ _ _ _ _ e, c.loop-i.invariant.0)
