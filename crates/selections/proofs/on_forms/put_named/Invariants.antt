-- `selections::on_forms::put_named` meets its contract: of the numbers looked at those named are written. Assumes nothing.
use Rattle.selections.proofs.laws.of_on_forms.Naming.{Naming}
use Rattle.selections.proofs.on_forms.put_named.Given as goal

abbrev pub invariant-loop-i : goal.invariant-loop-i
invariant-loop-i l = Naming l.numbers l.mask l.initial.out l.out l.m l.i
