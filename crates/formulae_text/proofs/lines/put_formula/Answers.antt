-- `formulae_text::lines::put_formula` meets its contract. Assumes nothing.
use native.Mathlib.Omega.{arith}
use Rattle.printing.specs.record_lines.laws.Lines.{lead_short}
use Rattle.formulae_text.specs.lines.laws.Lines.{formula_put}
use Rattle.formulae_text.proofs.lines.put_formula.Goals as goal

pub put_lead-a-requires : goal.put_lead-a-requires
put_lead-a-requires c = omega (arith, c.requires.place)

pub put_entry-requires : goal.put_entry-requires
put_entry-requires c = lead_short _ _ (omega arith) c.requires
    c.put_lead-a.ensures

pub returns : goal.returns
returns c = formula_put _ _ _ _ _ _ _ _ _ _ c.put_lead-a.ensures
    c.put_entry.ensures
