-- `rank::rank` meets its contract. Assumes nothing.
use native.Mathlib.Omega.{arith}
use mathlib.Core.Path.{refl}
use Rattle.problems.proofs.laws.Handed.{replied_as, few_handed}
use Rattle.problems.proofs.laws.of_prices.Handed.{problem_laid, priced_refused, priced_made, prices_handed, narrow_handed}
use Rattle.rank.specs.Rank.{rank}
use Rattle.rank.specs.fewest.Fewest.{lent_ranking}
use Rattle.rank.proofs.laws.Numbers.{rank_told}
use Rattle.rank.specs.declared.fewest.Ranked.TheVariants as ranked
use Rattle.rank.proofs.rank.Goals as goal

pub rank_posed-requires : goal.rank_posed-requires
rank_posed-requires c =
    let first-words = c.first_words-generators in
    let basis-of = c.basis_of-b in
    let pose = c.pose_priced in
    let L = pose.ensures in
    let n = c.in-Are.is in
    record {
      few = few_handed (problem_laid L) n first-words.ensures;
      each = prices_handed L n (omega (arith, pose.auto.g)) first-words.ensures c.first_words.ensures;
      narrow = narrow_handed L n c.first_words.ensures;
      basis = basis-of.ensures;
    }

pub returns-in-Refused : goal.returns-in-Refused
unfolding rank
returns-in-Refused c =
    let args = c.args in
    let pose-priced = c.pose_priced in
    let old = args.out.now in
    rank_told (ranked.Refused _) old
    (replied_as (λ a. lent_ranking a old) (priced_refused pose-priced.ensures _ c.in-Refused.is) (refl, refl))

pub returns-in-Are : goal.returns-in-Are
unfolding rank
returns-in-Are c =
    let args = c.args in
    let pose-priced = c.pose_priced in
    let first-words = c.first_words-generators in
    let first-words2 = c.first_words-targets in
    let first-words3 = c.first_words in
    let rank-posed = c.rank_posed in
    let old = args.out.now in
    rank_told rank-posed.result _
    (replied_as (λ a. lent_ranking a old)
    (priced_made pose-priced.ensures c.in-Are.is _ first-words.ensures first-words2.ensures first-words3.ensures) rank-posed.ensures)
