-- `printing::fields::put_field` meets its contract. Assumes nothing.
use Rattle.printing.specs.fields.laws.Pieces.{field_put}
use Rattle.printing.proofs.fields.put_field.Goals as goal

pub returns : goal.returns
returns c =
    let args = c.args in
    let put_byte = c.put_byte in
    let put-number = c.put_number in
    field_put args.n _ _ _ _ _ put_byte.ensures put-number.ensures
