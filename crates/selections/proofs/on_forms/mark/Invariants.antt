-- `selections::on_forms::mark` meets its contract: with the numbers to come marked too, the marks are those of all. Assumes nothing.
use Rattle.selections.proofs.laws.of_on_forms.Marking.{Marking}
use Rattle.selections.proofs.on_forms.mark.Given as goal

abbrev pub invariant-loop-e : goal.invariant-loop-e
invariant-loop-e l = Marking l.sel l.skip l.initial.marks l.marks l.e-index
