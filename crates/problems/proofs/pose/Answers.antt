-- `problems::pose` meets its contract. Assumes nothing.
use mathlib.Core.Path.{◌∙◌}
use Rattle.problems.proofs.laws.Laying.{posed_2_laid, posed_kind_laid}
use Rattle.problems.proofs.pose.Goals as goal

pub returns-in_default : goal.returns-in_default
returns-in_default c =
    let a = c.args in
    posed_2_laid a.number a.p a.q a.r a.gs.now a.ts.now a.others.now a.g.now a.t.now
    (c.kind_numbered.ensures ∙ c.in_default.is)

pub returns : goal.returns
returns c =
    let kind_numbered_law = c.kind_numbered in
    let a = c.args in
    posed_kind_laid a.number a.p a.q a.r a.gs.now a.ts.now a.others.now _ _ c.in-Some.kind _
    (kind_numbered_law.ensures ∙ c.in-Some.is) c.pose_shape.ensures
