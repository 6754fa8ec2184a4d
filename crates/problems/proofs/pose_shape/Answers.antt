-- `problems::pose_shape` meets its contract. Assumes nothing.
use mathlib.Core.Path.{sym, ◌∙◌}
use Rattle.problems.proofs.laws.Laying.{shaped_3_laid, shaped_list_laid, shaped_map_laid, list_targets}
use Rattle.problems.proofs.pose_shape.Goals as goal

pub returns-in_default : goal.returns-in_default
returns-in_default c =
    let a = c.args in
    shaped_3_laid a.shape a.gs.now a.ts.now a.others.now a.g.now a.t.now
    (c.sizes_of.ensures ∙ c.in_default.is)

pub pose_list-requires : goal.pose_list-requires
pose_list-requires c =
    let a = c.args in
    let pre = c.requires in
    let sizes-of = c.sizes_of in
    let sized = sizes-of.ensures ∙ c.in-Some.is in
    let b = list_targets a.shape _ (sym c.is_list.ensures ∙ c.if-is_list.true) sized in
    record { some_target = b.0; most_targets_law = b.1; generators = pre.0; targets = pre.1 }

pub returns-then-is_list : goal.returns-then-is_list
returns-then-is_list c =
    let a = c.args in
    let is-list = c.is_list in
    let if1 = c.if-is_list in
    shaped_list_laid a.shape a.gs.now a.ts.now a.others.now _ _ c.in-Some.n c.in-Some.m c.in-Some.u
    (c.sizes_of.ensures ∙ c.in-Some.is) _ (sym is-list.ensures ∙ if1.true) c.pose_list.ensures

pub pose_map-requires : goal.pose_map-requires
pose_map-requires c =
    let pre = c.requires in
    let sizes-of = c.sizes_of in
    (pre.0, record { sized = sizes-of.ensures ∙ c.in-Some.is; room = pre.1 })

pub returns : goal.returns
returns c =
    let a = c.args in
    let is-list = c.is_list in
    let if1 = c.if-is_list in
    shaped_map_laid a.shape a.gs.now a.ts.now a.others.now _ _ c.in-Some.n c.in-Some.m c.in-Some.u
    (c.sizes_of.ensures ∙ c.in-Some.is) _ (sym is-list.ensures ∙ if1.false) c.pose_map.ensures
