-- `formula_text::put_head` meets its contract. Assumes nothing.
use Rattle.formula_text.specs.laws.Formula.{head_put}
use Rattle.formula_text.proofs.put_head.Goals as goal

pub returns : goal.returns
returns c =
    head_put c.args.shape _ _ _ _ _ _ _ _ _ c.put_bytes-a.ensures c.put_shape-b.ensures
    c.put_bytes.ensures
