-- `rank::matrix_rank::has_multiples` meets its contract. Assumes nothing.
use Rattle.rank.proofs.laws.of_matrix_rank.Loops.{Checking}
use Rattle.rank.proofs.matrix_rank.has_multiples.Given as goal

abbrev pub invariant-loop-rest : goal.invariant-loop-rest
invariant-loop-rest l = Checking l.width l.u l.form l.rest

abbrev pub decreases-loop-rest : goal.decreases-loop-rest
decreases-loop-rest l = l.rest
