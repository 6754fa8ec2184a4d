-- `rank::matrix_rank::are_products` meets its contract. Assumes nothing.
use native.Mathlib.Omega.{arith}
use mathlib.Core.Bool.{false≢true}
use borrow.Author.Tests.{not-false}
use Rattle.rank.proofs.laws.of_matrix_rank.Loops.{passed_start, passed_next, passed_end}
use Rattle.rank.proofs.matrix_rank.are_products.Goals as goal

pub loop-g-init : goal.loop-g-init
loop-g-init c = passed_start c.args.width c.args.gens.now

pub is_product-requires : goal.is_product-requires
is_product-requires c = c.requires

pub returns-then-not-is_product : goal.returns-then-not-is_product
returns-then-not-is_product c e = absurd (false≢true e)

pub loop-g-preserved : goal.loop-g-preserved
loop-g-preserved c =
    let a = c.args in
    let l = c.loop-g in
    let p = c.is_product.ensures (not-false _ c.if-not-is_product.false-raw) in
    passed_next a.width a.gens.now l.g-index l.invariant (omega arith) p

pub returns : goal.returns
returns c e = let a = c.args in passed_end a.width a.gens.now c.loop-g.g-index c.loop-g.invariant (omega arith)
