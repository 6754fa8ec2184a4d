-- `words::lists::any_outside` meets its contract. Assumes nothing.
use Rattle.std.proofs.Common.{◌∙◌, not, ltb, rules, tests}
use Rattle.std.proofs.lemmas.Iterator.{YieldsList-from_slice}
use Rattle.std.proofs.lemmas.Iterator.Search.{any_from_yields_List}
use Rattle.linear.proofs.laws.Select.{any_of_is}
use Rattle.words.proofs.lists.any_outside.Goals as goal

pub returns : goal.returns
returns c =
    let a = c.args in
    any_from_yields_List (λ e. not (ltb e a.n)) _ _ c.any.result c.any.ensures.ran (YieldsList-from_slice a.sel.now cc)
    (λ x b q k. search (rules, tests)) ∙ any_of_is _ _
