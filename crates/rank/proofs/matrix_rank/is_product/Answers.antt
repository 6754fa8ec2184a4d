-- `rank::matrix_rank::is_product` meets its contract. Assumes nothing.
use Rattle.rank.proofs.matrix_rank.is_product.Goals as goal

pub returns : goal.returns
returns c e = (c.first_row.result, c.has_multiples.ensures e)
