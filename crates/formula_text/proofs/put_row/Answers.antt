-- `formula_text::put_row` meets its contract. Assumes nothing.
use native.Mathlib.Omega.{arith}
use Rattle.printing.specs.laws.Print.{printed_fits}
use Rattle.formula_text.specs.laws.Lines.{row_put}
use Rattle.formula_text.proofs.put_row.Goals as goal

pub put_bytes-requires : goal.put_bytes-requires
put_bytes-requires c =
    omega (arith, c.requires, c.put_number-a.ensures.0, printed_fits 16 16 c.args.z)

pub returns : goal.returns
returns c =
    row_put c.args.z _ _ _ _ _ _ c.put_number-a.ensures c.put_bytes.ensures
