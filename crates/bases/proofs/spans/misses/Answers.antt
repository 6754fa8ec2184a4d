-- `bases::spans::misses` meets its contract. Assumes nothing.
use Rattle.std.proofs.Common.{◌∙◌, not, rules, tests}
use Rattle.std.proofs.lemmas.Iterator.{YieldsList-from_slice}
use Rattle.std.proofs.lemmas.Iterator.Search.{any_from_yields_List}
use Rattle.linear.specs.Entry.{inside}
use Rattle.linear.specs.Word.{word}
use Rattle.linear.proofs.laws.Select.{any_of_is}
use Rattle.bases.specs.Basis.{rows_of}
use Rattle.bases.proofs.spans.misses.Goals as goal

pub returns : goal.returns
returns c =
    let a = c.args in
    any_from_yields_List (λ t. not (inside word (rows_of a.b) t)) _ _ c.any.result c.any.ensures.ran (YieldsList-from_slice a.targets.now cc)
    (λ x b q k. search (rules, tests)) ∙ any_of_is _ _
