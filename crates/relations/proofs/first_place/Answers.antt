-- `relations::first_place` meets its contract: at the first place no relation from `start` on is passed. Assumes nothing.
use mathlib.Core.Path.{refl}
use Rattle.relations.specs.laws.Places.{first_asked, first_is}
use Rattle.relations.proofs.first_place.Goals as goal

pub table-requires : goal.table-requires
table-requires c = c.requires.0

pub seek-requires : goal.seek-requires
seek-requires c =
    let a = c.args in
    let t = c.table in
    let pre = c.requires in
    first_asked a.gens.now a.v.now a.start t.new.heads t.new.links pre.1 t.ensures

pub returns : goal.returns
returns c =
    let a = c.args in
    let t = c.seek in
    first_is a.gens.now a.s.now a.v.now a.lines a.start _ t.result t.new.heads t.new.links
    refl refl t.ensures
