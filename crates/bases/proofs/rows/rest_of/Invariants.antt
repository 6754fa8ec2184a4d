-- `bases::rows::rest_of` meets its contract: the rows from i on, of what is left, leave and take what all do of v. Assumes nothing.
use Rattle.bases.proofs.laws.of_rows.Rest.{Resting}
use Rattle.bases.proofs.rows.rest_of.Given as goal

abbrev pub invariant-loop-i : goal.invariant-loop-i
invariant-loop-i l = Resting l.rows l.masks l.v l.form l.mask l.i
