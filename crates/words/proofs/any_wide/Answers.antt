-- `words::any_wide` meets its contract. Assumes nothing.
use Rattle.std.proofs.Common.{◌∙◌, rules, tests}
use Rattle.std.proofs.lemmas.Iterator.{YieldsList-from_slice}
use Rattle.std.proofs.lemmas.Iterator.Search.{any_from_yields_List}
use Rattle.words.specs.Masks.{outside}
use Rattle.words.specs.laws.Scan.{any_wide}
use Rattle.words.proofs.any_wide.Goals as goal

pub returns : goal.returns
returns c =
    let a = c.args in
    any_from_yields_List (outside a.n) _ _ c.any.result c.any.ensures.ran (YieldsList-from_slice a.masks.now cc)
    (λ x b q k. search (rules, tests)) ∙ any_wide _ _
