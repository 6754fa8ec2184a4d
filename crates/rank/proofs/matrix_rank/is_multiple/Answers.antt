-- `rank::matrix_rank::is_multiple` meets its contract. Assumes nothing.
use borrow.Author.Tests.{eqb-true}
use Rattle.rank.proofs.laws.of_matrix_rank.Loops.{fits_zero, fits_same}
use Rattle.rank.proofs.matrix_rank.is_multiple.Goals as goal

pub returns-then-row-eq0 : goal.returns-then-row-eq0
returns-then-row-eq0 c e = fits_zero c.args.u c.args.row c.if-row-eq0.true

pub returns-else-row-eq0 : goal.returns-else-row-eq0
returns-else-row-eq0 c e = fits_same c.args.u c.args.row (eqb-true c.args.row c.args.u e)
