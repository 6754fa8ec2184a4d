-- `bases::rows::echelon_of` meets its contract: the rows so far track the products so far. Assumes nothing.
use Rattle.bases.specs.rows.Echelon.{Tracking}
use Rattle.bases.proofs.rows.echelon_of.Given as goal

abbrev pub invariant-loop-i : goal.invariant-loop-i
invariant-loop-i l = Tracking l.products l.rows l.masks l.i
