-- `formulae_text::lines::put_formulae` meets its contract. Assumes nothing.
use Rattle.formulae_text.specs.lines.FormulaLines.{formula_text}
use Rattle.printing.specs.record_lines.laws.Lines.{Listing}
use Rattle.formulae_text.proofs.lines.put_formulae.Given as goal

abbrev pub invariant-loop-i : goal.invariant-loop-i
invariant-loop-i l = Listing (formula_text l.entry) 46 l.listing l.k l.t l.n l.initial.out l.at l.out l.e l.i
