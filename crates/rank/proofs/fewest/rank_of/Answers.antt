-- `rank::fewest::rank_of` meets its contract. Assumes nothing.
use Rattle.std.specs.Prelude.{Some, None}
use native.Mathlib.Omega.{arith}
use mathlib.Core.Path.{sym, ap, ◌∙◌}
use Rattle.kinds.specs.Refusal.{Answer}
use Rattle.rank.specs.fewest.Fewest.{Ranking, lent_ranking}
use Rattle.problems.proofs.laws.Handed.{replied_as}
use Rattle.rank.proofs.laws.of_fewest.Least.{says_beyond, says_above, says_formula, missed_is, found_as, asking, finishing, few_held, numbers_held}
use Rattle.rank.proofs.fewest.rank_of.Goals as goal

pub returns-then-misses : goal.returns-then-misses
returns-then-misses c =
    let basis-of = c.basis_of-all in
    let a = c.args in
    let M = missed_is a.gens.now a.targets.now c.misses.result basis-of.result basis-of.ensures c.misses.ensures in
    let e = says_beyond a.gens.now a.targets.now a.prices.now a.out.now (M ∙ c.if-misses.true) in
    (e, sym (ap (λ (r : Answer Ranking). lent_ranking r a.out.now) e))

pub order-requires : goal.order-requires
order-requires c =
    let pre = c.requires in
    let R = pre in (omega (arith, R.few, R.each), omega (arith, R.few, R.each), R.narrow)

pub least_formula-requires : goal.least_formula-requires
least_formula-requires c =
    let pre = c.requires in
    let order = c.order in
    let a = c.args in
    asking a.gens.now a.targets.now a.prices.now a.b _ _ _ _ pre order.ensures c.first_words.ensures (omega arith)

pub returns-in_default : goal.returns-in_default
returns-in_default c =
    let pre = c.requires in
    let basis-of = c.basis_of-all in
    let misses = c.misses in
    let if1 = c.if-misses in
    let a = c.args in
    let M = missed_is a.gens.now a.targets.now misses.result basis-of.result basis-of.ensures misses.ensures in
    let l = c.least_formula in
    let e = says_above a.gens.now a.targets.now a.prices.now (M ∙ if1.false) a.out.now
    (found_as a.gens.now a.targets.now a.prices.now a.b l.result None _ pre.basis l.ensures c.in_default.is) in
    (e, sym (ap (λ (r : Answer Ranking). lent_ranking r a.out.now) e))

pub finish-requires : goal.finish-requires
finish-requires c =
    let pre = c.requires in
    let basis-of = c.basis_of-all in
    let misses = c.misses in
    let if1 = c.if-misses in
    let a = c.args in
    let M = missed_is a.gens.now a.targets.now misses.result basis-of.result basis-of.ensures misses.ensures in
    let l = c.least_formula in
    let F = found_as a.gens.now a.targets.now a.prices.now a.b l.result (Some c.in-Some.k) _ pre.basis l.ensures
    c.in-Some.is in
    finishing a.gens.now a.targets.now a.prices.now (M ∙ if1.false) c.first_words-2.result.now pre.few
    (few_held c.in-Some.k l.new.held _ l.auto.held c.first_words-2.ensures)
    (numbers_held c.in-Some.k l.new.held _ l.auto.held c.first_words-2.ensures F)

pub returns : goal.returns
returns c =
    let pre = c.requires in
    let basis-of = c.basis_of-all in
    let misses = c.misses in
    let if1 = c.if-misses in
    let first-words2 = c.first_words-2 in
    let finish = c.finish in
    let a = c.args in
    let M = missed_is a.gens.now a.targets.now misses.result basis-of.result basis-of.ensures misses.ensures in
    let l = c.least_formula in
    let F = found_as a.gens.now a.targets.now a.prices.now a.b l.result (Some c.in-Some.k) _ pre.basis l.ensures
    c.in-Some.is in
    replied_as (λ r. lent_ranking r a.out.now)
    (says_formula a.gens.now a.targets.now a.prices.now (M ∙ if1.false) a.out.now first-words2.result.now
    (numbers_held c.in-Some.k l.new.held _ l.auto.held first-words2.ensures F))
    finish.ensures
