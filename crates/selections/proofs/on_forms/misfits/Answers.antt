-- `selections::on_forms::misfits` meets its contract. Assumes nothing.
use mathlib.Core.Path.{◌∙◌}
use Rattle.selections.proofs.laws.of_on_forms.Marking.{misfit_outside, misfit_twice}
use Rattle.selections.proofs.on_forms.misfits.Goals as goal

pub returns-then-any_outside : goal.returns-then-any_outside
returns-then-any_outside c = c.if-any_outside.true ∙ misfit_outside c.args.n c.args.sel.now c.any_outside.result c.any_outside.ensures c.if-any_outside.true

pub returns-else-any_outside : goal.returns-else-any_outside
returns-else-any_outside c =
    let args = c.args in
    let any-outside = c.any_outside in
    misfit_twice args.n args.sel.now any-outside.result c.repeats.result any-outside.ensures c.if-any_outside.false
    c.repeats.ensures
