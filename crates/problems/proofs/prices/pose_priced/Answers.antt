-- `problems::prices::pose_priced` meets its contract. Assumes nothing.
use mathlib.Core.Path.{◌∙◌}
use Rattle.problems.proofs.laws.of_prices.Laying.{priced_2_laid, priced_kind_laid}
use Rattle.problems.proofs.prices.pose_priced.Goals as goal

pub returns-in_default : goal.returns-in_default
returns-in_default c =
    let a = c.args in
    priced_2_laid a.number a.p a.q a.r a.gs.now a.ts.now a.costs.now a.g.now a.t.now a.v.now
    (c.kind_numbered.ensures ∙ c.in_default.is)

pub returns : goal.returns
returns c =
    let a = c.args in
    priced_kind_laid a.number a.p a.q a.r a.gs.now a.ts.now a.costs.now _ _ _ c.in-Some.kind _
    (c.kind_numbered.ensures ∙ c.in-Some.is) c.pose_priced_shape.ensures
