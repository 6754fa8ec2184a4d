-- `rank::matrix_rank::product_width` meets its contract. Assumes nothing.
use native.Mathlib.Omega.{arith}
use Rattle.rank.proofs.laws.of_matrix_rank.Loops.{single}
use Rattle.rank.proofs.matrix_rank.product_width.Goals as goal

pub are_products-requires : goal.are_products-requires
are_products-requires c = record { some = omega (arith, c.loop-w.invariant); within = omega arith }

pub returns-then-are_products : goal.returns-then-are_products
returns-then-are_products c = (
  record { some = omega (arith, c.loop-w.invariant); within = omega arith },
  c.are_products.ensures
      c.if-are_products.true,
)

pub loop-w-preserved : goal.loop-w-preserved
loop-w-preserved c = omega (arith, c.loop-w.invariant)

pub returns : goal.returns
returns c = (record { some = omega arith; within = omega arith }, single c.args.gens.now)
