-- `problems::prices::pose_priced_shape` meets its contract. Assumes nothing.
use native.Mathlib.Omega.{arith}
use mathlib.Core.Path.{sym, ◌∙◌}
use Rattle.problems.proofs.laws.of_prices.Laying.{also_laid, refused_laid, laid_asked, made_laid}
use Rattle.problems.proofs.prices.pose_priced_shape.Goals as goal

pub pose_shape-x-requires : goal.pose_shape-x-requires
pose_shape-x-requires c = let pre = c.requires in (pre.generators, pre.targets)

pub returns-then-unpriced : goal.returns-then-unpriced
returns-then-unpriced c =
    let a = c.args in
    also_laid a.shape a.gs.now a.ts.now a.costs.now c.pose_shape-x.ensures _ (sym c.unpriced.ensures ∙ c.if-unpriced.true)
    c.also_refused.ensures

pub returns-in_default : goal.returns-in_default
returns-in_default c =
    let a = c.args in
    refused_laid a.shape a.gs.now a.ts.now a.costs.now c.pose_shape-x.ensures
    (sym c.unpriced.ensures ∙ c.if-unpriced.false) _ c.in_default.is

pub fill_prices-requires : goal.fill_prices-requires
fill_prices-requires c =
    let a = c.args in
    let room = c.requires.generators in
    laid_asked a.shape a.gs.now a.ts.now a.costs.now c.pose_shape-x.ensures
    (sym c.unpriced.ensures ∙ c.if-unpriced.false) c.in-Are.is a.v.now
    (omega (arith, c.pose_shape-x.auto.g)) c.requires.prices

pub returns : goal.returns
returns c =
    let a = c.args in
    let room = c.requires.generators in
    made_laid a.shape a.gs.now a.ts.now a.costs.now c.pose_shape-x.ensures
    (sym c.unpriced.ensures ∙ c.if-unpriced.false) c.in-Are.is _
    (omega (arith, c.pose_shape-x.auto.g)) c.fill_prices.ensures
