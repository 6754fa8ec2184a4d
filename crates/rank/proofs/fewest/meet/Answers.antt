-- `rank::fewest::meet` meets its contract. Assumes nothing.
use Rattle.rank.proofs.laws.of_fewest.Least.{skipped}
use Rattle.rank.proofs.fewest.meet.Goals as goal

pub returns-then-k-bound : goal.returns-then-k-bound
returns-then-k-bound c =
    let a = c.args in
    skipped a.gens.now a.b a.bound a.k a.order.now a.prices.now a.held.now c.requires.1 c.if-k-bound.true

pub cheapest_formula-requires : goal.cheapest_formula-requires
cheapest_formula-requires c = c.requires.0

pub returns : goal.returns
returns c = c.cheapest_formula.ensures
