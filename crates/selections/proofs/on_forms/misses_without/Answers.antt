-- `selections::on_forms::misses_without` meets its contract. Assumes nothing.
use Rattle.choices.specs.laws.Writing.{forms_length}
use Rattle.selections.proofs.laws.of_on_forms.Replies.{missed_is}
use Rattle.selections.proofs.on_forms.misses_without.Goals as goal

pub slice_bounds-basis_of-end : goal.slice_bounds-basis_of-end
slice_bounds-basis_of-end c =
    let p = c.part_without-c in
    forms_length p.result p.ensures.whole

pub returns : goal.returns
returns c =
    let a = c.args in
    let p = c.part_without-c in
    let b = c.basis_of in
    missed_is a.gens.now a.targets.now a.sel.now c.requires.1 p.result a.skip b.result c.misses.result p.ensures b.ensures
    c.misses.ensures
