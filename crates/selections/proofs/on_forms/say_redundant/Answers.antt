-- `selections::on_forms::say_redundant` meets its contract. Assumes nothing.
use mathlib.Core.Path.{sym, ap, ◌∙◌}
use mathlib.Core.Bool.{true, false, not}
use Rattle.selections.proofs.laws.of_on_forms.Replies.{redundant_misfit, redundant_short, redundant_lacking, redundant_said, missed_all}
use Rattle.selections.proofs.on_forms.say_redundant.Goals as goal

pub returns-then-misfits : goal.returns-then-misfits
returns-then-misfits c =
    let a = c.args in
    redundant_misfit a.gens.now a.targets.now a.sel.now a.j (sym c.misfits.ensures ∙ c.if-misfits.true)

pub misses_without-requires : goal.misses_without-requires
misses_without-requires c = (c.requires, (sym c.misfits.ensures ∙ c.if-misfits.false))

pub returns-then-misses_without : goal.returns-then-misses_without
returns-then-misses_without c =
    let a = c.args in
    redundant_short a.gens.now a.targets.now a.sel.now a.j ((sym c.misfits.ensures ∙ c.if-misfits.false)) ((let a = c.args in
    missed_all a.gens.now a.targets.now a.sel.now c.misses_without.result ((sym c.misfits.ensures ∙ c.if-misfits.false))
    c.misses_without.ensures) ∙ c.if-misses_without.true)

pub returns-then-not-stands_from : goal.returns-then-not-stands_from
returns-then-not-stands_from c =
    let a = c.args in
    redundant_lacking a.gens.now a.targets.now a.sel.now a.j ((sym c.misfits.ensures ∙ c.if-misfits.false))
    ((let a = c.args in missed_all a.gens.now a.targets.now a.sel.now c.misses_without.result ((sym c.misfits.ensures ∙ c.if-misfits.false))
    c.misses_without.ensures) ∙ c.if-misses_without.false) (ap not (sym c.stands_from.ensures) ∙ c.if-not-stands_from.true-raw)

pub misses_without-requires-2 : goal.misses_without-requires-2
misses_without-requires-2 c = (c.requires, (sym c.misfits.ensures ∙ c.if-misfits.false))

pub returns-then-misses_without-2 : goal.returns-then-misses_without-2
returns-then-misses_without-2 c = (let a = c.args in
    redundant_said a.gens.now a.targets.now a.sel.now a.j true ((sym c.misfits.ensures ∙ c.if-misfits.false)) ((let a = c.args in
    missed_all a.gens.now a.targets.now a.sel.now c.misses_without.result ((sym c.misfits.ensures ∙ c.if-misfits.false)) c.misses_without.ensures) ∙
    c.if-misses_without.false) (ap not (sym c.stands_from.ensures) ∙ c.if-not-stands_from.false-raw) (sym c.misses_without-2.ensures ∙
    c.if-misses_without-2.true))

pub returns-else-misses_without-2 : goal.returns-else-misses_without-2
returns-else-misses_without-2 c = (let a = c.args in
    redundant_said a.gens.now a.targets.now a.sel.now a.j false ((sym c.misfits.ensures ∙ c.if-misfits.false)) ((let a = c.args in
    missed_all a.gens.now a.targets.now a.sel.now c.misses_without.result ((sym c.misfits.ensures ∙ c.if-misfits.false)) c.misses_without.ensures) ∙
    c.if-misses_without.false) (ap not (sym c.stands_from.ensures) ∙ c.if-not-stands_from.false-raw) (sym c.misses_without-2.ensures ∙
    c.if-misses_without-2.false))
