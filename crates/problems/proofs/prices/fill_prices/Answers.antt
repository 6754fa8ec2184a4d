-- `problems::prices::fill_prices` meets its contract. Assumes nothing.
use native.Mathlib.Omega.{arith}
use mathlib.Core.Path.{sym, ◌∙◌}
use Rattle.problems.proofs.laws.of_prices.Filling.{list_count, list_filled, map_made, map_filled, none_filled}
use Rattle.problems.proofs.prices.fill_prices.Goals as goal

pub copy_forms-requires : goal.copy_forms-requires
copy_forms-requires c =
    let a = c.args in
    let room = c.requires.room in
    omega (arith, list_count a.shape a.costs.now a.c c.requires (sym c.is_list.ensures ∙ c.if-is_list.true))

pub returns-then-is_list : goal.returns-then-is_list
returns-then-is_list c =
    let a = c.args in
    list_filled a.shape a.costs.now a.c c.requires (sym c.is_list.ensures ∙ c.if-is_list.true) _
    c.copy_forms.ensures

pub returns-in_default : goal.returns-in_default
returns-in_default c =
    let a = c.args in
    none_filled a.shape a.costs.now a.c c.requires (sym c.is_list.ensures ∙ c.if-is_list.false) a.v.now
    (c.sizes_of.ensures ∙ c.in_default.is)

pub fill_costs-requires : goal.fill_costs-requires
fill_costs-requires c =
    let a = c.args in
    map_made a.shape a.costs.now a.c c.requires (sym c.is_list.ensures ∙ c.if-is_list.false)
    c.in-Some.n c.in-Some.m _ (c.sizes_of.ensures ∙ c.in-Some.is)

pub returns : goal.returns
returns c =
    let a = c.args in
    map_filled a.shape a.costs.now a.c c.requires (sym c.is_list.ensures ∙ c.if-is_list.false)
    c.in-Some.n c.in-Some.m _ (c.sizes_of.ensures ∙ c.in-Some.is) _
    c.fill_costs.ensures
