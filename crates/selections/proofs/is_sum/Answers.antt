-- `selections::is_sum` meets its contract. Assumes nothing.
use mathlib.Core.Path.{refl}
use Rattle.problems.proofs.laws.Handed.{follow_refused, follow_made, few_handed, replied_as}
use Rattle.selections.specs.declared.on_forms.Summed.TheVariants as summed
use Rattle.selections.specs.on_forms.Shown.{lent_summed}
use Rattle.selections.proofs.laws.of_on_forms.Numbers.{summed_told}
use Rattle.selections.specs.Selections.{is_sum}
use Rattle.selections.proofs.is_sum.Goals as goal

pub say_sum-requires : goal.say_sum-requires
say_sum-requires c =
    let generators = c.first_words in
    let pose = c.pose in
    few_handed pose.ensures c.in-Are.is generators.ensures

pub returns-in-Refused : goal.returns-in-Refused
unfolding is_sum
returns-in-Refused c =
    let pose = c.pose in
    let old = c.args.out.now in
    summed_told (summed.Refused _) old
    (replied_as (λ a. lent_summed a old) (follow_refused pose.ensures _ c.in-Refused.is) (refl, refl))

pub returns-in-Are : goal.returns-in-Are
unfolding is_sum
returns-in-Are c =
    let said = c.say_sum in
    let targets = c.first_words-in-Are in
    let generators = c.first_words in
    let pose = c.pose in
    let old = c.args.out.now in
    summed_told said.result _
    (replied_as (λ a. lent_summed a old) (follow_made pose.ensures _ c.in-Are.is generators.ensures targets.ensures) said.ensures)
