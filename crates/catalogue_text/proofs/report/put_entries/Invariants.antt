-- `catalogue_text::report::put_entries` meets its contract. Assumes nothing.
use Prim.Native.Nat.{◌-◌}
use Rattle.printing.specs.record_lines.RecordLines.{entry_text}
use Rattle.printing.specs.record_lines.laws.Lines.{Listing}
use Rattle.catalogue_text.proofs.report.put_entries.Given as goal

abbrev pub invariant-loop-i : goal.invariant-loop-i
invariant-loop-i l = Listing entry_text 25 l.listing (l.k - l.ell) l.k l.shown l.initial.out l.at l.out l.e l.i
