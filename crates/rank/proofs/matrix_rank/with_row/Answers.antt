-- `rank::matrix_rank::with_row` meets its contract. Assumes nothing.
use Rattle.rank.proofs.laws.of_matrix_rank.Loops.{joined}
use Rattle.rank.proofs.matrix_rank.with_row.Goals as goal

pub returns-then-i-b : goal.returns-then-i-b
returns-then-i-b c s = joined c.args.b c.requires c.args.sum c.args.i c.if-i-b.true s
