-- `rank::rank_posed` meets its contract. Assumes nothing.
use mathlib.Core.Path.{refl}
use Rattle.problems.specs.Problem.{problem}
use Rattle.problems.proofs.laws.Handed.{replied_as}
use Rattle.rank.specs.fewest.Fewest.{lent_ranking}
use Rattle.rank.proofs.laws.Replies.{rank_far, rank_near}
use Rattle.rank.proofs.rank_posed.Goals as goal

pub returns-then-k-ne0 : goal.returns-then-k-ne0
returns-then-k-ne0 c =
    let a = c.args in
    replied_as (λ r. lent_ranking r a.out.now) (rank_far (problem a.gens.now a.targets.now) a.prices.now a.k a.out.now c.if-k-ne0.true)
    (refl, refl)

pub returns : goal.returns
returns c =
    let a = c.args in
    replied_as (λ r. lent_ranking r a.out.now)
    (rank_near (problem a.gens.now a.targets.now) a.prices.now a.k a.out.now c.if-k-ne0.false)
    c.rank_of.ensures
