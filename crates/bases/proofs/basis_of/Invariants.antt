-- `bases::basis_of` meets its contract: the vectors to come, put into the basis so far, make the basis of all. Assumes nothing.
use Rattle.bases.proofs.Growing.{Basing}
use Rattle.bases.proofs.basis_of.Given as goal

abbrev pub invariant-loop-x : goal.invariant-loop-x
invariant-loop-x l = Basing l.xs l.b l.x-index
