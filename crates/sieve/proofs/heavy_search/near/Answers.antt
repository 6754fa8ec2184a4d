-- `sieve::heavy_search::near` meets its contract, by the number of missing dimensions. Assumes nothing.
use mathlib.Core.Path.{sym, ◌∙◌}
use native.Mathlib.Omega.{arith}
use Rattle.sieve.specs.heavy_search.laws.Near.{near_flagged, near_none, near_last, near_two, near_child}
use Rattle.sieve.proofs.heavy_search.near.Goals as goal

pub returns-then-t : goal.returns-then-t
returns-then-t c =
    let a = c.args in
    near_flagged a.gens.now a.h.now a.d.now a.j a.start a.k a.missing a.t a.gone.now a.marks.now
    c.requires.1 a.mine.now c.if-t.true

pub returns-then-b-k : goal.returns-then-b-k
returns-then-b-k c =
    let a = c.args in
    near_none a.gens.now a.h.now a.d.now a.j a.start a.k a.missing a.t a.gone.now a.marks.now
    c.requires.1 a.mine.now c.if-missing-eq1.true c.if-t.false
    c.if-b-k.true

pub offset_bounds-d-j : goal.offset_bounds-d-j
offset_bounds-d-j c =
    omega (arith, c.requires.0.number, c.requires.0.sizes.few)

pub bounds-d-j : goal.bounds-d-j
bounds-d-j c =
    omega (arith, c.requires.0.number, c.requires.0.sizes.over)

pub finish-requires : goal.finish-requires
finish-requires c =
    let P = c.requires.0 in
    (sym P.sizes.alike ∙ P.sizes.over, omega (arith, P.sizes.alike, P.sizes.begin), omega (arith, P.sizes.alike, P.sizes.few), P.sizes.marks_all)

pub shape_of-marks-then-missing-eq1 : goal.shape_of-marks-then-missing-eq1
shape_of-marks-then-missing-eq1 c = c.finish.auto.marks

pub returns-then-missing-eq1 : goal.returns-then-missing-eq1
returns-then-missing-eq1 c =
    let a = c.args in
    near_last a.gens.now a.h.now a.d.now a.j a.start a.k a.missing a.t a.gone.now a.marks.now
    c.requires.1 a.mine.now
    c.finish.new.marks c.if-missing-eq1.true
    c.requires.0.sizes.alike c.finish.ensures

pub pairs-requires : goal.pairs-requires
pairs-requires c = (
  c.requires.0,
  c.requires.1.held
      c.if-t.false,
)

pub shape_of-picks-then-missing-eq2 : goal.shape_of-picks-then-missing-eq2
shape_of-picks-then-missing-eq2 c = c.pairs.auto.picks

pub shape_of-mine-then-missing-eq2 : goal.shape_of-mine-then-missing-eq2
shape_of-mine-then-missing-eq2 c = c.pairs.auto.mine

pub shape_of-marks-then-missing-eq2 : goal.shape_of-marks-then-missing-eq2
shape_of-marks-then-missing-eq2 c = c.pairs.auto.marks

pub returns-then-missing-eq2 : goal.returns-then-missing-eq2
returns-then-missing-eq2 c =
    let a = c.args in
    near_two a.gens.now a.h.now a.d.now a.j a.start a.k a.missing a.t a.gone.now a.marks.now
    c.requires.1 c.pairs.new.mine
    c.pairs.new.marks c.if-missing-eq2.true
    c.pairs.ensures

pub offset_bounds-d-j-2 : goal.offset_bounds-d-j-2
offset_bounds-d-j-2 c =
    omega (arith, c.requires.0.number, c.requires.0.sizes.few)

pub bounds-d-j-2 : goal.bounds-d-j-2
bounds-d-j-2 c =
    omega (arith, c.requires.0.number, c.requires.0.sizes.over)

pub child-requires : goal.child-requires
child-requires c = (
  omega (arith, c.requires.0.sizes.over, c.requires.0.sizes.few),
  c.requires.0.mine_all,
)

pub shape_of-mine : goal.shape_of-mine
shape_of-mine c = c.child.auto.out

pub returns : goal.returns
returns c =
    let a = c.args in
    near_child a.gens.now a.h.now a.d.now a.j a.start a.k a.missing a.t a.gone.now a.marks.now
    c.requires.1 c.child.new.out
    c.requires.2 c.if-missing-eq1.false
    c.if-missing-eq2.false c.if-t.false
    c.child.ensures
