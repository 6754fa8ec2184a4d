-- `formula_text::put_formula` meets its contract. Assumes nothing.
use Rattle.formula_text.specs.laws.Formula.{formula_put}
use Rattle.formula_text.proofs.put_formula.Goals as goal

pub returns : goal.returns
returns c =
    let args = c.args in
    formula_put args.shape args.a.now args.b.now args.rows.now _ _ _ _ _ _ _ _ _ _ _ _ c.requires.few c.requires.outputs
    c.put_head-c.ensures c.put_bytes-d.ensures c.put_products-e.ensures c.put_bytes-f.ensures
    c.put_rows.ensures
