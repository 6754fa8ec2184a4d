-- `words::lists::list_refusal` meets its contract. Assumes nothing.
use Rattle.std.proofs.Common.{◌≡◌, ◌||◌, refl, ◌∙◌, lt-ltb, le-ltb, rules}
use Rattle.words.specs.Masks.{wide, zero_in}
use Rattle.words.specs.lists.Lists.{repeats}
use Rattle.words.specs.lists.laws.Refusals.{unlike_some, unlike_none, list_as}
use Rattle.kinds.specs.Limits.{most_generators}
use Rattle.words.proofs.lists.list_refusal.Goals as goal
use Rattle.words.proofs.lists.list_refusal.Goals.{then-any_wide, else-any_wide, then-any_wide-2, else-any_wide-2, then-any_zero, else-any_zero}

pub returns-then-q : goal.returns-then-q
returns-then-q c = list_as _ _ _ _ _ _ (lt-ltb most_generators c.args.q c.if-q.true) refl refl refl

pub returns-then-ts-r : goal.returns-then-ts-r
returns-then-ts-r c =
    let a = c.args in
    list_as _ _ _ _ _ _ (le-ltb most_generators a.q c.if-q.false) (unlike_some a.q a.r a.gs.now a.ts.now c.if-ts-r.either) refl refl

pub returns-then-any_wide-3 : goal.returns-then-any_wide-3
returns-then-any_wide-3 c =
    let a = c.args in
    let wide_is : wide a.p a.gs.now || (wide a.p a.ts.now || wide a.p a.others.now) ≡ c.if-any_wide-2.value =
    elim c.if-any_wide-2.branch [
      | then-any_wide-2 w ↦ elim c.if-any_wide.branch [ then-any_wide v ↦ search rules | else-any_wide v ↦ search rules ]
      | else-any_wide-2 w ↦ elim c.if-any_wide.branch [ then-any_wide v ↦ search rules | else-any_wide v ↦ search rules ]
    ] in
    list_as _ _ _ _ _ _ (le-ltb most_generators a.q c.if-q.false) (unlike_none _ _ _ _ c.if-ts-r.false.0 c.if-ts-r.false.1)
    (wide_is ∙ c.if-any_wide-3.true) refl

pub returns-then-repeats : goal.returns-then-repeats
returns-then-repeats c =
    let a = c.args in
    let wide_is : wide a.p a.gs.now || (wide a.p a.ts.now || wide a.p a.others.now) ≡ c.if-any_wide-2.value =
    elim c.if-any_wide-2.branch [
      | then-any_wide-2 w ↦ elim c.if-any_wide.branch [ then-any_wide v ↦ search rules | else-any_wide v ↦ search rules ]
      | else-any_wide-2 w ↦ elim c.if-any_wide.branch [ then-any_wide v ↦ search rules | else-any_wide v ↦ search rules ]
    ] in
    let again : zero_in a.gs.now || repeats a.gs.now ≡ c.if-any_zero.value =
    elim c.if-any_zero.branch [ then-any_zero w ↦ search rules | else-any_zero w ↦ search rules ] in
    list_as _ _ _ _ _ _ (le-ltb most_generators a.q c.if-q.false) (unlike_none _ _ _ _ c.if-ts-r.false.0 c.if-ts-r.false.1)
    (wide_is ∙ c.if-any_wide-3.false) (again ∙ c.if-repeats.true)

pub returns-else-repeats : goal.returns-else-repeats
returns-else-repeats c =
    let a = c.args in
    let wide_is : wide a.p a.gs.now || (wide a.p a.ts.now || wide a.p a.others.now) ≡ c.if-any_wide-2.value =
    elim c.if-any_wide-2.branch [
      | then-any_wide-2 w ↦ elim c.if-any_wide.branch [ then-any_wide v ↦ search rules | else-any_wide v ↦ search rules ]
      | else-any_wide-2 w ↦ elim c.if-any_wide.branch [ then-any_wide v ↦ search rules | else-any_wide v ↦ search rules ]
    ] in
    let again : zero_in a.gs.now || repeats a.gs.now ≡ c.if-any_zero.value =
    elim c.if-any_zero.branch [ then-any_zero w ↦ search rules | else-any_zero w ↦ search rules ] in
    list_as _ _ _ _ _ _ (le-ltb most_generators a.q c.if-q.false) (unlike_none _ _ _ _ c.if-ts-r.false.0 c.if-ts-r.false.1)
    (wide_is ∙ c.if-any_wide-3.false) (again ∙ c.if-repeats.false)
