-- `formula_text::put_product` meets its contract. Assumes nothing.
use Rattle.std.proofs.Common.{arith}
use Rattle.printing.specs.laws.Print.{printed_fits}
use Rattle.formula_text.specs.laws.Lines.{product_put}
use Rattle.formula_text.proofs.put_product.Goals as goal

pub overflow_add-a : goal.overflow_add-a
overflow_add-a c = omega (arith, printed_fits 16 16 c.args.x)

pub put_number-b-requires : goal.put_number-b-requires
put_number-b-requires c = omega (arith, printed_fits 16 16 c.args.x)

pub put_bytes-requires : goal.put_bytes-requires
put_bytes-requires c = omega (arith, printed_fits 16 16 c.args.x, printed_fits 16 16 c.args.y)

pub returns : goal.returns
returns c =
    product_put c.args.x c.args.y _ _ _ _ _ _ _ _ _ c.put_number-a.ensures c.put_byte.ensures c.put_number-b.ensures
    c.put_bytes.ensures
