-- `words::lists::stands_from` meets its contract. Assumes nothing.
use Rattle.std.proofs.Common.{◌∙◌, eqb, rules, tests}
use Rattle.std.proofs.lemmas.Iterator.{YieldsList-from_slice}
use Rattle.std.proofs.lemmas.Iterator.Adapters.{YieldsList-from_skip}
use Rattle.std.proofs.lemmas.Iterator.Search.{any_from_yields_List}
use Rattle.linear.proofs.laws.Select.{any_of_is}
use Rattle.words.proofs.lists.stands_from.Goals as goal

pub returns : goal.returns
returns c =
    let a = c.args in
    any_from_yields_List (eqb a.x) _ _ c.any.result c.any.ensures.ran (YieldsList-from_skip a.from (YieldsList-from_slice a.xs.now cc) cc)
    (λ x b q k. search (rules, tests)) ∙ any_of_is _ _
