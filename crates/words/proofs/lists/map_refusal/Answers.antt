-- `words::lists::map_refusal` meets its contract. Assumes nothing.
use Rattle.std.proofs.Common.{refl, sym, ◌∙◌}
use Rattle.words.specs.lists.laws.Refusals.{unlike_some, unlike_none, map_as}
use Rattle.words.proofs.lists.map_refusal.Goals as goal

pub returns-then-ts-ne0 : goal.returns-then-ts-ne0
returns-then-ts-ne0 c = map_as _ _ _ _ (unlike_some 0 0 c.args.gs.now c.args.ts.now c.if-ts-ne0.either) refl

pub returns-then-any_wide : goal.returns-then-any_wide
returns-then-any_wide c =
    map_as _ _ _ _ (unlike_none 0 0 _ _ c.if-ts-ne0.false.0 c.if-ts-ne0.false.1) (sym c.any_wide.ensures ∙ c.if-any_wide.true)

pub returns-else-any_wide : goal.returns-else-any_wide
returns-else-any_wide c =
    map_as _ _ _ _ (unlike_none 0 0 _ _ c.if-ts-ne0.false.0 c.if-ts-ne0.false.1) (sym c.any_wide.ensures ∙ c.if-any_wide.false)
