-- `rank::matrix_rank::are_products` meets its contract. Assumes nothing.
use Rattle.rank.proofs.laws.of_matrix_rank.Loops.{Passed}
use Rattle.rank.proofs.matrix_rank.are_products.Given as goal

abbrev pub invariant-loop-g : goal.invariant-loop-g
invariant-loop-g l = Passed l.width l.gens l.g-index
