-- `space_formulae::formulae` meets its contract. Assumes nothing.
use mathlib.Core.Path.{refl}
use Rattle.problems.proofs.laws.Handed.{follow_refused, follow_made, replied_as}
use Rattle.space_formulae.specs.spaces.Spaces.{formulae_of, lent_formulae}
use Rattle.space_formulae.proofs.laws.Replies.{made_some}
use Rattle.space_formulae.proofs.laws.Numbers.{formulae_told}
use Rattle.space_formulae.specs.declared.spaces.Listed.TheVariants as reply
use Rattle.space_formulae.proofs.formulae.Goals as goal

pub formulae_for-requires : goal.formulae_for-requires
formulae_for-requires c =
    let pose = c.pose in
    made_some pose.ensures c.in-Are.is pose.auto.t c.first_words-in-Are.ensures

pub returns-in-Refused : goal.returns-in-Refused
unfolding formulae_of
returns-in-Refused c =
    let old = c.args.out.now in
    formulae_told (reply.Refused _) old
    (replied_as (λ a. lent_formulae a old) (follow_refused c.pose.ensures _ c.in-Refused.is)
    (refl, refl))

pub returns-in-Are : goal.returns-in-Are
unfolding formulae_of
returns-in-Are c =
    let old = c.args.out.now in
    let pose = c.pose in
    let generators = c.first_words.ensures in
    let targets = c.first_words-in-Are.ensures in
    formulae_told c.formulae_for.result _
    (replied_as (λ a. lent_formulae a old) (follow_made pose.ensures _ c.in-Are.is generators targets)
    c.formulae_for.ensures)
