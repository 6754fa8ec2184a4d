-- `printing::fields::put_sizes` meets its contract. Assumes nothing.
use Rattle.std.proofs.Common.{arith}
use Rattle.kinds.specs.Kinds.{name_short}
use Rattle.printing.specs.fields.laws.Pieces.{sizes_put}
use Rattle.printing.proofs.fields.put_sizes.Goals as goal

pub put_field-b-requires : goal.put_field-b-requires
put_field-b-requires c = omega (arith, name_short c.args.shape.kind)

pub put_field-c-requires : goal.put_field-c-requires
put_field-c-requires c = omega (arith, name_short c.args.shape.kind)

pub put_field-d-requires : goal.put_field-d-requires
put_field-d-requires c = omega (arith, name_short c.args.shape.kind)

pub put_field-requires : goal.put_field-requires
put_field-requires c = omega (arith, name_short c.args.shape.kind)

pub returns : goal.returns
returns c =
    sizes_put c.args.shape _ _ _ _ _ _ _ _ _ _ _ _ _ c.put_kind-a.ensures c.put_field-b.ensures
    c.put_field-c.ensures c.put_field-d.ensures c.put_field.ensures
