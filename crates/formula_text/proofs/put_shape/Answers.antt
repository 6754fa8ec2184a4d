-- `formula_text::put_shape` meets its contract. Assumes nothing.
use Rattle.std.proofs.Common.{arith}
use Rattle.kinds.specs.Kinds.{name_short}
use Rattle.formula_text.specs.laws.Formula.{shape_put}
use Rattle.formula_text.proofs.put_shape.Goals as goal

pub put_count-b-requires : goal.put_count-b-requires
put_count-b-requires c = omega (arith, name_short c.args.shape.kind)

pub put_count-c-requires : goal.put_count-c-requires
put_count-c-requires c = omega (arith, name_short c.args.shape.kind)

pub put_count-d-requires : goal.put_count-d-requires
put_count-d-requires c = omega (arith, name_short c.args.shape.kind)

pub put_count-requires : goal.put_count-requires
put_count-requires c = omega (arith, name_short c.args.shape.kind)

pub returns : goal.returns
returns c =
    shape_put c.args.shape _ _ _ _ _ _ _ _ _ _ _ _ _ c.put_kind-a.ensures c.put_count-b.ensures
    c.put_count-c.ensures c.put_count-d.ensures c.put_count.ensures
