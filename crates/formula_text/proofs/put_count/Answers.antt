-- `formula_text::put_count` meets its contract. Assumes nothing.
use Rattle.formula_text.specs.laws.Lines.{count_put}
use Rattle.formula_text.proofs.put_count.Goals as goal

pub returns : goal.returns
returns c =
    let args = c.args in
    count_put args.n _ _ _ _ _ c.put_byte.ensures c.put_number.ensures
