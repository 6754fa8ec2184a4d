-- `relations::next_place` meets its contract: from the next pointer of the chain on, only the relation at `u` is passed. Assumes nothing.
use mathlib.Core.Path.{refl}
use native.Mathlib.Omega.{arith}
use Prim.Native.Nat.{◌-◌}
use Rattle.relations.specs.laws.Places.{next_asked, next_is}
use Rattle.relations.proofs.next_place.Goals as goal

pub overflow_sub-at : goal.overflow_sub-at
overflow_sub-at c = omega (arith, c.requires.0.pair c.requires.1)

pub offset_bounds-links-u : goal.offset_bounds-links-u
offset_bounds-links-u c =
    let pre = c.requires in
    omega (arith, (pre.0.stored pre.1).room)

pub bounds-links-u : goal.bounds-links-u
bounds-links-u c =
    let pre = c.requires in
    omega (arith, (pre.0.stored pre.1).room, pre.0.tables.sizes.links_all)

pub overflow_cast-at : goal.overflow_cast-at
overflow_cast-at c = omega (arith, c.slice_known-3-1.given (c.args.u.e - 1))

pub seek-requires : goal.seek-requires
seek-requires c =
    let a = c.args in
    let pre = c.requires in
    next_asked a.gens.now a.s.now a.v.now a.lines a.u a.heads.now a.links.now pre.0 pre.1

pub returns : goal.returns
returns c =
    let a = c.args in
    let t = c.seek in
    let pre = c.requires in
    next_is a.gens.now a.s.now a.v.now a.lines a.u a.heads.now a.links.now pre.0 pre.1 _ t.result
    t.new.heads t.new.links refl refl refl refl t.ensures
