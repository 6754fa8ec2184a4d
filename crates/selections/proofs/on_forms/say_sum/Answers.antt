-- `selections::on_forms::say_sum` meets its contract. Assumes nothing.
use mathlib.Core.Path.{sym, ap, ◌∙◌}
use lib.ListN.{length}
use Rattle.kinds.specs.Refusal.{Answer}
use Rattle.problems.proofs.laws.Handed.{replied_as}
use Rattle.selections.specs.on_forms.Shown.{Summing, lent_summed}
use Rattle.selections.proofs.laws.of_on_forms.Replies.{sum_misfit, sum_shown, part_shows}
use Rattle.selections.proofs.on_forms.say_sum.Goals as goal

pub returns-then-misfits : goal.returns-then-misfits
returns-then-misfits c =
    let a = c.args in
    let e = sum_misfit a.gens.now a.targets.now a.sel.now a.form a.out.now (sym c.misfits.ensures ∙ c.if-misfits.true) in
    (e, sym (ap (λ (x : Answer Summing). lent_summed x a.out.now) e))

pub part_without-requires : goal.part_without-requires
part_without-requires c =
    (c.requires, sym c.misfits.ensures ∙ c.if-misfits.false)

pub show_sum-requires : goal.show_sum-requires
show_sum-requires c =
    let a = c.args in
    let p = c.part_without in
    part_shows a.gens.now a.targets.now a.sel.now (length a.gens.now) p.result p.ensures

pub returns : goal.returns
returns c =
    let a = c.args in
    let p = c.part_without in
    let shown = c.show_sum in
    let f = c.if-misfits in
    let m = c.misfits in
    replied_as (λ x. lent_summed x a.out.now)
    (sum_shown a.gens.now a.targets.now a.sel.now (sym m.ensures ∙ f.false) p.result a.form a.out.now p.ensures)
    shown.ensures
