-- `rank::matrix_rank::least_products` meets its contract. Assumes nothing.
use Rattle.rank.proofs.laws.of_matrix_rank.Matrix.{bounded, bound_none}
use Rattle.rank.proofs.matrix_rank.least_products.Goals as goal

pub returns-then-b-ge8 : goal.returns-then-b-ge8
returns-then-b-ge8 c = bound_none c.args.gens.now c.args.b

pub returns-then-width-b : goal.returns-then-width-b
returns-then-width-b c = bound_none c.args.gens.now c.args.b

pub returns : goal.returns
returns c =
    let a = c.args in
    let w = c.product_width-width in
    bounded a.gens.now a.b w.result c.largest_rank.result w.ensures.1 c.largest_rank.ensures
