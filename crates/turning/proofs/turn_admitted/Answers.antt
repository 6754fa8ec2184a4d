-- `turning::turn_admitted` meets its contract. Assumes nothing.
use mathlib.Core.Path.{refl, sym, ◌∙◌}
use Prim.Native.Nat.{◌≤◌}
use lib.ListN.{length}
use Rattle.turning.specs.Turning.{turned}
use Rattle.turning.specs.Lent.{full_of}
use Rattle.turning.proofs.laws.Refusals.{turned_as, short_room, lent_refused, lent_filled}
use Rattle.turning.proofs.turn_admitted.Goals as goal

pub returns-then-any_unused : goal.returns-then-any_unused
returns-then-any_unused c =
    let a = c.args in
    let f = full_of a.n a.a.now a.b.now a.rows.now in
    let e = turned_as (length a.u.now) (length a.v.now) (length a.w.now) f (sym c.if-any_unused.true ∙ c.any_unused.ensures) refl in
    (e, lent_refused 12 a.u.now a.v.now a.w.now e)

pub returns-then-too_short : goal.returns-then-too_short
returns-then-too_short c =
    let a = c.args in
    let f = full_of a.n a.a.now a.b.now a.rows.now in
    let e =
    turned_as (length a.u.now) (length a.v.now) (length a.w.now) f
    (sym c.if-any_unused.false ∙ c.any_unused.ensures)
    (sym c.if-too_short.true ∙ c.too_short.ensures) in
    (e, lent_refused 9 a.u.now a.v.now a.w.now e)

pub put_reversed-requires : goal.put_reversed-requires
put_reversed-requires c = (
  ((c.requires)).bits,
  ((let it : (let a = c.args in
      (length a.a.now ≤ length a.u.now) × (length a.a.now ≤ length a.v.now) × (a.n ≤ length a.w.now)) = short_room _ _ _ _ _ (sym c.too_short.ensures ∙
      c.if-too_short.false) in it)).0,
)

pub put_columns-requires : goal.put_columns-requires
put_columns-requires c = (
  ((c.requires)).outputs,
  ((let it : (let a = c.args in
      (length a.a.now ≤ length a.u.now) × (length a.a.now ≤ length a.v.now) × (a.n ≤ length a.w.now)) = short_room _ _ _ _ _ (sym c.too_short.ensures ∙
      c.if-too_short.false) in it)).1,
)

pub put_columns-requires-2 : goal.put_columns-requires-2
put_columns-requires-2 c = (
  ((c.requires)).pairs,
  ((let it : (let a = c.args in
      (length a.a.now ≤ length a.u.now) × (length a.a.now ≤ length a.v.now) × (a.n ≤ length a.w.now)) = short_room _ _ _ _ _ (sym c.too_short.ensures ∙
      c.if-too_short.false) in it)).2,
)

pub returns : goal.returns
returns c =
    let a = c.args in
    let f = full_of a.n a.a.now a.b.now a.rows.now in
    let e =
    turned_as (length a.u.now) (length a.v.now) (length a.w.now) f
    (sym c.if-any_unused.false ∙ c.any_unused.ensures)
    (sym c.if-too_short.false ∙ c.too_short.ensures) in
    let first = c.put_reversed in
    let second = c.put_columns in
    (e, lent_filled (turned f) e first.ensures second.ensures c.put_columns-2.ensures)
