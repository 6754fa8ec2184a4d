-- `catalogue::catalogue` meets its contract. Assumes nothing.
use mathlib.Core.Path.{refl}
use Rattle.problems.proofs.laws.Handed.{follow_refused, follow_made, replied_as, few_handed}
use Rattle.catalogue.specs.Catalogue.{catalogue, lent_catalogue}
use Rattle.catalogue.proofs.laws.Numbers.{catalogue_told}
use Rattle.catalogue.specs.declared.Catalogued.TheVariants as reply
use Rattle.catalogue.proofs.catalogue.Goals as goal

pub catalogue_of-requires : goal.catalogue_of-requires
catalogue_of-requires c =
    let pose = c.pose in
    few_handed pose.ensures c.in-Are.is c.first_words.ensures

pub returns-in-Refused : goal.returns-in-Refused
unfolding catalogue
returns-in-Refused c =
    let old = c.args.out.now in
    catalogue_told (reply.Refused _) old
    (replied_as (λ a. lent_catalogue a old) (follow_refused c.pose.ensures _ c.in-Refused.is)
    (refl, refl))

pub returns-in-Are : goal.returns-in-Are
unfolding catalogue
returns-in-Are c =
    let old = c.args.out.now in
    let pose = c.pose in
    let generators = c.first_words.ensures in
    let targets = c.first_words-in-Are.ensures in
    catalogue_told c.catalogue_of.result _
    (replied_as (λ a. lent_catalogue a old) (follow_made pose.ensures _ c.in-Are.is generators targets)
    c.catalogue_of.ensures)
