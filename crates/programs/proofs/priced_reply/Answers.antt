-- `programs::priced_reply` meets its contract. Assumes nothing.
use mathlib.Core.Path.{ap, ◌∙◌}
use lib.ListN.{length}
use borrow.Author.Rules.{rules}
use Rattle.kinds.specs.Limits.{cost_bits}
use Rattle.words.specs.Masks.{wide}
use Rattle.problems.specs.Problem.{problem}
use Rattle.rank_text.specs.RankAnswers.{rank_reply}
use Rattle.programs.proofs.priced_reply.Goals as goal

pub fill_prices-requires : goal.fill_prices-requires
fill_prices-requires c =
    let few = c.requires.1.generators in
    record { each = c.requires.2.each; few = few; room = few }

pub rank_reply-requires : goal.rank_reply-requires
rank_reply-requires c =
    let is-prices = c.first_words.ensures ∙ c.fill_prices.ensures in
    let P = c.requires in
    (P.0, P.1, ap length is-prices ∙ P.2.each, ap (wide cost_bits) is-prices ∙ P.2.narrow)

pub returns : goal.returns
returns c =
    let fill-prices = c.fill_prices in
    let first-words = c.first_words in
    let rank-reply = c.rank_reply in
    let a = c.args in
    let is-prices = first-words.ensures ∙ fill-prices.ensures in
    let R = rank-reply.ensures in
    (R.0 ∙ ap (rank_reply a.shape a.k (problem a.gens.now a.targets.now)) is-prices, R.1)
