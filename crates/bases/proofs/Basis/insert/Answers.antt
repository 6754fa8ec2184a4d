-- `bases::Basis::insert` meets its contract: what is left of the vector is 0, or is placed among the rows. Assumes nothing.
use Rattle.std.proofs.Common.{◌<◌, sym, ◌∙◌, arith}
use Rattle.bases.proofs.Growing.{has_room, holds_old, holds_new}
use Rattle.bases.proofs.Basis.insert.Goals as goal

pub place-requires : goal.place-requires
place-requires c =
    let a = c.args in
    let r = c.reduce_rows-r in
    let room : a.self.len < 64 = has_room a.self c.requires a.v (omega arith) r.result r.ensures c.if-r-ne0.true in
    omega (arith, c.requires.whole)

pub returns-then-r-ne0 : goal.returns-then-r-ne0
returns-then-r-ne0 c =
    let a = c.args in
    let r = c.reduce_rows-r in
    holds_new a.self c.requires a.v (omega arith) r.result r.ensures c.if-r-ne0.true _ c.place.ensures

pub returns-else-r-ne0 : goal.returns-else-r-ne0
returns-else-r-ne0 c = holds_old c.args.self c.requires c.args.v (sym c.reduce_rows-r.ensures ∙ c.if-r-ne0.false)
