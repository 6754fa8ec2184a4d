-- `printing::field_lists::put_spaced` meets its contract. Assumes nothing.
use Rattle.printing.specs.field_lists.laws.Inner.{Spacing}
use Rattle.printing.proofs.field_lists.put_spaced.Given as goal

abbrev pub invariant-loop-x : goal.invariant-loop-x
invariant-loop-x l = Spacing l.xs l.base l.most l.initial.out l.at l.out l.e l.x-index
