-- `cheapest::is_better` meets its contract. Assumes nothing.
use Rattle.cheapest.specs.laws.Offers.{better_later}
use Rattle.cheapest.proofs.is_better.Goals as goal
use Rattle.cheapest.specs.laws.Totals.{dictionary}
use Rattle.std.proofs.Common.{refl, ◌∙◌}

pub returns-then-first : goal.returns-then-first
returns-then-first c = rw (c.if-first.true) refl

pub returns-else-first : goal.returns-else-first
returns-else-first c =
    let a = c.args in
    better_later a.a.now a.b.now c.if-first.false (c.lt.ensures ∙ dictionary a.a.now a.b.now)
