-- `rank::fewest::finish` meets its contract. Assumes nothing.
use native.Mathlib.Omega.{arith}
use mathlib.Core.Path.{sym, ap}
use Rattle.kinds.specs.Refusal.{Answer}
use Rattle.rank.specs.fewest.Fewest.{Ranking, lent_ranking}
use Rattle.rank.proofs.laws.of_fewest.Least.{too_short, picked_length, picked_solves, finished}
use Rattle.rank.proofs.fewest.finish.Goals as goal

pub returns-then-out-n : goal.returns-then-out-n
returns-then-out-n c =
    let a = c.args in
    let e = too_short a.gens.now a.targets.now a.numbers.now a.out.now c.if-out-n.true in
    (e, sym (ap (λ (r : Answer Ranking). lent_ranking r a.out.now) e))

pub pick-requires : goal.pick-requires
pick-requires c =
    let pre = c.requires in
    (pre.small, pre.few, pre.below)

pub write_formula-requires : goal.write_formula-requires
write_formula-requires c =
    let pre = c.requires in
    let if1 = c.if-out-n in
    let a = c.args in
    let P = c.pick in
    let l = picked_length a.gens.now a.targets.now a.numbers.now a.out.now P.result P.ensures in (
      P.ensures.whole,
      omega (arith, l, if1.false),
      picked_solves a.gens.now a.targets.now a.numbers.now a.out.now P.result P.ensures pre.solves,
    )

pub returns : goal.returns
returns c =
    let if1 = c.if-out-n in
    let a = c.args in
    let P = c.pick in
    let W = c.write_formula in
    let e = finished a.gens.now a.targets.now a.numbers.now a.out.now P.result P.ensures (omega (arith, if1.false)) _ W.ensures in
    (e, sym (ap (λ (r : Answer Ranking). lent_ranking r a.out.now) e))
