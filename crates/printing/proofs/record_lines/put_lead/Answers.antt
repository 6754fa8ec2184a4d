-- `printing::record_lines::put_lead` meets its contract. Assumes nothing.
use native.Mathlib.Omega.{arith}
use Rattle.printing.specs.fields.laws.Pieces.{number_short}
use Rattle.printing.specs.record_lines.laws.Lines.{lead_put}
use Rattle.printing.proofs.record_lines.put_lead.Goals as goal

pub overflow_add-result : goal.overflow_add-result
overflow_add-result c =
    omega (arith, c.requires, c.put_number-a.ensures.0, number_short c.args.n)

pub returns : goal.returns
returns c = lead_put _ _ _ _ _ _ c.put_number-a.ensures c.put_byte.ensures
