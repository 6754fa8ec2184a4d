-- `forms_values::main`: each expected value follows from the contract of the function called. Assumes nothing.
use Rattle.std.proofs.Common.{ap, not, ◌∙◌}
use Rattle.std.proofs.lemmas.Bool.{eq-eqb}
use Rattle.forms_values.proofs.Values.{bit_40_3, bit_40_64, weight_7, top_40, top_0, product_33, product_25, clear_65, clear_05}
use Rattle.forms_values.proofs.main.Goals as goal

pub expect-requires : goal.expect-requires
expect-requires c = c.coordinate.ensures ∙ bit_40_3

pub expect-requires-2 : goal.expect-requires-2
expect-requires-2 c = ap not (c.coordinate-2.ensures ∙ bit_40_64)

pub expect-requires-3 : goal.expect-requires-3
expect-requires-3 c = eq-eqb _ 3 (c.ones.ensures ∙ weight_7)

pub expect-requires-4 : goal.expect-requires-4
expect-requires-4 c = eq-eqb _ 5 (c.lead.ensures ∙ top_40)

pub expect-requires-5 : goal.expect-requires-5
expect-requires-5 c = eq-eqb _ 0 (c.lead-2.ensures ∙ top_0)

pub expect-requires-6 : goal.expect-requires-6
expect-requires-6 c = eq-eqb _ 15 (c.product.ensures ∙ product_33)

pub expect-requires-7 : goal.expect-requires-7
expect-requires-7 c = eq-eqb _ 40 (c.product-2.ensures ∙ product_25)

pub expect-requires-8 : goal.expect-requires-8
expect-requires-8 c = eq-eqb _ 3 (c.clear.ensures ∙ clear_65)

pub expect-requires-9 : goal.expect-requires-9
expect-requires-9 c = eq-eqb _ 5 (c.clear-2.ensures ∙ clear_05)
