-- `rank::matrix_rank::rank_at` meets its contract. Assumes nothing.
use Rattle.rank.proofs.laws.of_matrix_rank.Loops.{Cutting}
use Rattle.rank.proofs.matrix_rank.rank_at.Given as goal

abbrev pub invariant-loop-rest : goal.invariant-loop-rest
invariant-loop-rest l = Cutting l.width l.form l.b l.rest

abbrev pub decreases-loop-rest : goal.decreases-loop-rest
decreases-loop-rest l = l.rest
