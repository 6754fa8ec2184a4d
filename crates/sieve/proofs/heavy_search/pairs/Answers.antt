-- `sieve::heavy_search::pairs` meets its contract: nothing is left beside the value, or what is left is done. Assumes nothing.
use mathlib.Core.Path.{sym, ◌∙◌}
use native.Mathlib.Omega.{arith}
use borrow.Author.Tests.{not-true}
use lib.ListN.{length, take}
use lib.Seq.{length-take-le}
use Rattle.sieve.specs.heavy_search.laws.Pairs.{mapped_child, pairs_at, pairs_picked, pairs_none, pairs_closed}
use Rattle.sieve.proofs.heavy_search.pairs.Goals as goal

pub join-requires : goal.join-requires
join-requires c =
    let P = c.requires.0 in
    record {
      table = P.table;
      few = omega (arith, P.sizes.over, P.sizes.few);
      begin = omega
          (arith, P.sizes.over, P.sizes.begin);
      gone_all = P.sizes.gone_all;
      all = P.weights_all;
      picks_all = P.picks_all;
    }

pub shape_of-picks-then-not-join : goal.shape_of-picks-then-not-join
shape_of-picks-then-not-join c = c.join.auto.picks

pub returns-then-not-join : goal.returns-then-not-join
returns-then-not-join c =
    let a = c.args in
    let J = c.join.ensures in
    let p = c.join.new.picks in
    pairs_none a.gens.now a.h.now a.d.now a.j a.start a.k a.b a.gone.now a.slots.now a.w.now a.picks.now
    a.mine.now a.marks.now c.requires.0
    c.requires.1 p
    (pairs_picked a.gens.now a.h.now a.d.now a.j a.start a.k a.b a.gone.now a.slots.now a.w.now a.picks.now
    a.mine.now a.marks.now c.requires.0
    c.requires.1
    c.needed-left.result c.needed-left.ensures p J.joined)
    (J.none (not-true _ c.if-not-join.true-raw))

pub child-requires : goal.child-requires
child-requires c = (
  omega (
    arith,
    c.requires.0.sizes.over,
    c.requires.0.sizes.few,
  ),
  c.requires.0.mine_all,
)

pub slice_bounds-close-end : goal.slice_bounds-close-end
slice_bounds-close-end c =
    omega (arith, c.requires.0.sizes.few, c.requires.0.mine_all, c.child.ensures.whole)

pub slice_bounds-close-end-2 : goal.slice_bounds-close-end-2
slice_bounds-close-end-2 c =
    sym (length-take-le (length c.args.gens.now) c.child.new.out (omega
    (arith, c.requires.0.sizes.few, c.child.ensures.whole)))

pub close-requires : goal.close-requires
close-requires c =
    let a = c.args in
    let m = c.child.new.out in (
      pairs_at a.gens.now a.h.now a.d.now a.j a.start a.k a.b a.gone.now a.slots.now a.w.now a.picks.now
          a.mine.now a.marks.now c.requires.0 c.requires.1
          (take (length a.gens.now) m) (mapped_child a.gens.now a.d.now m _ c.requires.0.sizes.over
          c.child.ensures),
      c.join.auto.picks ∙ c.requires.0.picks_all,
    )

pub shape_of-picks : goal.shape_of-picks
shape_of-picks c =
    c.join.auto.picks

pub shape_of-mine : goal.shape_of-mine
shape_of-mine c = c.child.auto.out

pub shape_of-marks : goal.shape_of-marks
shape_of-marks c = c.close.auto.marks

pub returns : goal.returns
returns c =
    let a = c.args in
    let m = c.child.new.out in
    let p = c.join.new.picks in
    pairs_closed a.gens.now a.h.now a.d.now a.j a.start a.k a.b a.gone.now a.slots.now a.w.now a.picks.now
    a.mine.now a.marks.now c.requires.0
    c.requires.1
    p c.close.new.marks (take (length a.gens.now) m) (mapped_child a.gens.now a.d.now m _
    c.requires.0.sizes.over
    c.child.ensures)
    (pairs_picked a.gens.now a.h.now a.d.now a.j a.start a.k a.b a.gone.now a.slots.now a.w.now a.picks.now
    a.mine.now a.marks.now c.requires.0
    c.requires.1
    c.needed-left.result c.needed-left.ensures p
    c.join.ensures.joined)
    c.close.ensures
