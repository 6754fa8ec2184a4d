-- `printing::record_lines::put_entry` meets its contract. Assumes nothing.
use native.Mathlib.Omega.{arith}
use Rattle.printing.specs.record_lines.laws.Lines.{lead_short, entry_put}
use Rattle.printing.proofs.record_lines.put_entry.Goals as goal

pub put_lead-a-requires : goal.put_lead-a-requires
put_lead-a-requires c = omega (arith, c.requires.place)

pub put_lists-requires : goal.put_lists-requires
put_lists-requires c = lead_short _ _ (omega arith) c.requires
    c.put_lead-a.ensures

pub returns : goal.returns
returns c = entry_put _ _ _ _ _ _ _ _ _ c.put_lead-a.ensures
    c.put_lists.ensures
