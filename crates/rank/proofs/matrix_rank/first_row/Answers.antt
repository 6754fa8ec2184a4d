-- `rank::matrix_rank::first_row` ends. Assumes nothing.
use Rattle.rank.proofs.laws.of_matrix_rank.Loops.{shorter}
use Rattle.rank.proofs.matrix_rank.first_row.Goals as goal

pub lowest-row-requires : goal.lowest-row-requires
lowest-row-requires c = c.requires.within

pub overflow_shr-rest : goal.overflow_shr-rest
overflow_shr-rest c = c.requires.within

pub loop-rest-smaller : goal.loop-rest-smaller
loop-rest-smaller c =
    shorter c.args.width c.loop-rest.rest c.requires c.loop-rest-test.true
