-- `rank::matrix_rank::first_row` ends. Assumes nothing.
use Rattle.rank.proofs.matrix_rank.first_row.Given as goal

abbrev pub invariant-loop-rest : goal.invariant-loop-rest
invariant-loop-rest l = Unit {0}

abbrev pub decreases-loop-rest : goal.decreases-loop-rest
decreases-loop-rest l = l.rest
