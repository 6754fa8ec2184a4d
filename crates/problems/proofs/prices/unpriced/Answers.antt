-- `problems::prices::unpriced` meets its contract. Assumes nothing.
use mathlib.Core.Path.{sym, ◌∙◌}
use Rattle.problems.proofs.laws.of_prices.Taken.{unpriced_many, unpriced_rest}
use Rattle.problems.proofs.prices.unpriced.Goals as goal

pub returns-then-costs-handed : goal.returns-then-costs-handed
returns-then-costs-handed c =
    let a = c.args in
    sym (unpriced_many a.shape a.costs.now (λ e. c.if-costs-handed.true (e ∙ sym c.handed.ensures)))

pub returns : goal.returns
returns c =
    let a = c.args in
    c.any_wide.ensures ∙ sym (unpriced_rest a.shape a.costs.now (c.if-costs-handed.false ∙ c.handed.ensures))
