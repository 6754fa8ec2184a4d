-- `catalogue::noting::note` meets its contract. Assumes nothing.
use mathlib.Core.Path.{ap, ◌∙◌, subst}
use lib.ListN.{length}
use Rattle.bases.specs.Basis.{rows_of}
use Rattle.residues.proofs.laws.of_children.Child.{residues_length}
use Rattle.records.specs.Keep.{state_of}
use Rattle.catalogue.specs.noting.Noting.{Menu, Steady}
use Rattle.catalogue.proofs.laws.of_noting.Noting.{noted_record, noted_offer}
use Rattle.catalogue.specs.declared.noting.Aim.{Aim}
use Rattle.catalogue.proofs.noting.note.Goals as goal

pub keep-requires : goal.keep-requires
keep-requires c =
    let a = c.args in
    let N = c.requires in
    record { valid = N.valid; tidy = N.tidy; sane = subst (λ (x : Aim). Steady x (state_of a.t a.out.now)) c.in-Records.is N.steady }

pub keep-requires-in-Cheapest : goal.keep-requires-in-Cheapest
keep-requires-in-Cheapest c =
    let a = c.args in
    let N = c.requires in
    let M = subst (λ (x : Aim). Menu a.gens.now a.order.now a.prices.now x) c.in-Cheapest.is N.menu in
    let S = subst (λ (x : Aim). Steady x (state_of a.t a.out.now)) c.in-Cheapest.is N.steady in (
      record {
        listed = record { words = ap length N.left ∙ residues_length a.gens.now (rows_of a.b); numbers = M.numbers };
        each = M.each;
        narrow = M.narrow;
      },
      S,
    )

pub returns-in-Records : goal.returns-in-Records
returns-in-Records c = noted_record _ _ _ _ _ _ _ _ c.in-Records.is c.keep.ensures

pub returns-in-Cheapest : goal.returns-in-Cheapest
returns-in-Cheapest c =
    let keep2 = c.keep-in-Cheapest in
    let a = c.args in
    let N = c.requires in
    let M = subst (λ (x : Aim). Menu a.gens.now a.order.now a.prices.now x) c.in-Cheapest.is N.menu in
    noted_offer _ _ _ _ _ _ _ _ _ _ c.in-Cheapest.is N.left M.numbers keep2.ensures
