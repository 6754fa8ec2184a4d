-- `turning::any_unused` meets its contract: it looks for a column that is zero. Assumes nothing.
use Rattle.std.proofs.Common.{◌∙◌, eqb, rules, tests, arith}
use Rattle.std.proofs.lemmas.Iterator.{YieldsList-from_range}
use Rattle.std.proofs.lemmas.Iterator.Search.{any_from_yields_List}
use Rattle.turning.specs.Turning.{column}
use Rattle.turning.proofs.laws.Loops.{zero_any}
use Rattle.turning.proofs.any_unused.Goals as goal

pub returns : goal.returns
returns c =
    let a = c.args in
    any_from_yields_List (λ l. eqb (column a.rows.now l) 0) _ _ c.any.result c.any.ensures.ran (YieldsList-from_range 0 a.k a.k (cc) (omega arith))
    (λ x b q k. search (rules, tests)) ∙ zero_any (column a.rows.now) 0 a.k
