-- `problems::pose_list` meets its contract. Assumes nothing.
use native.Mathlib.Omega.{arith}
use Rattle.problems.proofs.laws.Laying.{listed_by_laid, listed_few, listed_laid}
use Rattle.problems.proofs.pose_list.Goals as goal

pub returns-then-e-ne0 : goal.returns-then-e-ne0
returns-then-e-ne0 c =
    let args = c.args in
    let a = args in
    listed_by_laid a.p a.q a.r a.gs.now a.ts.now a.others.now c.list_refusal-e.result
    c.list_refusal-e.ensures a.g.now a.t.now c.if-e-ne0.true

pub copy_forms-requires : goal.copy_forms-requires
copy_forms-requires c =
    let args = c.args in
    let pre = c.requires in
    let list-refusal = c.list_refusal-e in
    let a = args in
    let f = (listed_few a.p a.q a.r a.gs.now a.ts.now a.others.now list-refusal.result list-refusal.ensures
    c.if-e-ne0.false).generators in
    let g = pre.generators in
    omega arith

pub copy_forms-requires-2 : goal.copy_forms-requires-2
copy_forms-requires-2 c =
    let args = c.args in
    let pre = c.requires in
    let list-refusal = c.list_refusal-e in
    let if1 = c.if-e-ne0 in
    let a = args in
    let f = (listed_few a.p a.q a.r a.gs.now a.ts.now a.others.now list-refusal.result list-refusal.ensures
    if1.false).targets in
    let g = pre.targets in
    let h = pre.most_targets_law in
    omega arith

pub returns : goal.returns
returns c =
    let args = c.args in
    let pre = c.requires in
    let list-refusal = c.list_refusal-e in
    let if1 = c.if-e-ne0 in
    let copy-forms = c.copy_forms in
    let a = args in
    listed_laid a.p a.q a.r a.gs.now a.ts.now a.others.now list-refusal.result list-refusal.ensures _ _ if1.false
    pre.some_target pre.most_targets_law copy-forms.ensures c.copy_forms-2.ensures
