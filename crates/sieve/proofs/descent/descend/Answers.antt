-- `sieve::descent::descend` meets its contract: three times a number is put in, then the generators of residue 0 are taken. Assumes nothing.
use mathlib.Core.Path.{refl, sym}
use lib.ListN.{length}
use lib.Seq.{length-take-le}
use Rattle.residues.proofs.laws.of_children.Numbers.{as_few, within_numbers}
use Rattle.sieve.specs.heavy_search.laws.Descend.{descend_one, descend_two, descend_three, descended}
use Rattle.sieve.proofs.descent.descend.Goals as goal

pub slice_bounds-child-end-2 : goal.slice_bounds-child-end-2
slice_bounds-child-end-2 c =
    let P = c.requires in
    let a = c.args in
    sym (length-take-le (length a.gens.now) c.child.new.out (within_numbers P.few
    c.child.ensures.whole))

pub child-requires-2 : goal.child-requires-2
child-requires-2 c =
    let P = c.requires in
    let a = c.args in (
      as_few (length-take-le (length a.gens.now) c.child.new.out (within_numbers P.few
          c.child.ensures.whole)) P.few,
      P.other_all,
    )

pub slice_bounds-child-end-4 : goal.slice_bounds-child-end-4
slice_bounds-child-end-4 c =
    let P =
    c.requires in
    let a =
    c.args in
    sym (length-take-le (length a.gens.now) c.child-2.new.out (within_numbers P.few
    c.child-2.ensures.whole))

pub child-requires-3 : goal.child-requires-3
child-requires-3 c =
    let P =
    c.requires in
    let a =
    c.args in (
      as_few (length-take-le (length a.gens.now) c.child-2.new.out (within_numbers P.few
          c.child-2.ensures.whole)) P.few,
      c.child.ensures.whole,
    )

pub slice_bounds-take-end-2 : goal.slice_bounds-take-end-2
slice_bounds-take-end-2 c =
    let P =
    c.requires in
    let a =
    c.args in
    sym (length-take-le (length a.gens.now) c.child-3.new.out (within_numbers P.few
    c.child-3.ensures.whole))

pub take-requires : goal.take-requires
take-requires c =
    let P =
    c.requires in
    let a =
    c.args in (
      P.held.valid,
      sym (length-take-le (length a.gens.now) c.child-3.new.out (within_numbers P.few
          c.child-3.ensures.whole)),
      as_few (length-take-le (length a.gens.now) c.child-3.new.out (within_numbers P.few
          c.child-3.ensures.whole)) (within_numbers P.few P.gone_all),
    )

pub returns : goal.returns
returns c =
    let P =
    c.requires in
    let a =
    c.args in
    let gens = a.gens.now in
    let d = a.d.now in
    let u = a.u in
    let mine =
    c.child.new.out in
    let other = c.child-2.new.out in
    let mine₂ = c.child-3.new.out in
    let one = descend_one gens d u P.over P.few P.second P.third _ mine refl
    c.child.ensures in
    let two = descend_two gens d u P.over P.few P.second P.third mine other _ one refl
    c.child-2.ensures in
    let three = descend_three gens d u P.over P.few P.second P.third other mine₂ _ two
    c.third_row-z.ensures c.child-3.ensures in
    descended gens d u P.over P.few P.second P.third a.s a.gone.now mine₂ _ P.held
    c.child-3.ensures.whole three c.take.ensures
