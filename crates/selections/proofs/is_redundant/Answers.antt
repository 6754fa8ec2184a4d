-- `selections::is_redundant` meets its contract. Assumes nothing.
use mathlib.Core.Path.{◌∙◌}
use Rattle.problems.proofs.laws.Handed.{follow_refused, follow_made, few_handed}
use Rattle.selections.specs.declared.on_forms.Said.TheVariants as said
use Rattle.selections.proofs.laws.of_on_forms.Numbers.{said_told}
use Rattle.selections.specs.Selections.{is_redundant}
use Rattle.selections.proofs.is_redundant.Goals as goal

pub say_redundant-requires : goal.say_redundant-requires
say_redundant-requires c =
    let generators = c.first_words in
    let pose = c.pose in
    few_handed pose.ensures c.in-Are.is generators.ensures

pub returns-in-Refused : goal.returns-in-Refused
unfolding is_redundant
returns-in-Refused c =
    let pose = c.pose in
    said_told (said.Refused _) (follow_refused pose.ensures _ c.in-Refused.is)

pub returns-in-Are : goal.returns-in-Are
unfolding is_redundant
returns-in-Are c =
    let generators = c.first_words in
    let pose = c.pose in
    said_told c.say_redundant.result
    (follow_made pose.ensures _ c.in-Are.is generators.ensures c.first_words-in-Are.ensures ∙ c.say_redundant.ensures)
