-- `bases::rows::echelon_of` meets its contract: the rows so far track the products so far. Assumes nothing.
use mathlib.Core.Path.{◌≡◌, refl, sym, subst}
use mathlib.Core.List.{List}
use Prim.Native.Nat.{ℕ}
use native.Mathlib.Omega.{arith}
use lib.ListN.{length}
use Rattle.bases.specs.rows.Echelon.{Tracking}
use Rattle.bases.proofs.laws.of_rows.Echelon.{rows_first, masks_first, first_fit, tracking_start, tracking_next}
use Rattle.bases.proofs.rows.echelon_of.Goals as goal

pub loop-i-init : goal.loop-i-init
loop-i-init c = tracking_start c.args.products.now _ _ refl refl

pub slice_bounds-rows-end : goal.slice_bounds-rows-end
slice_bounds-rows-end c = let R = c.loop-i.invariant in omega (arith, R.whole, R.room)

pub slice_bounds-rest_of-end : goal.slice_bounds-rest_of-end
slice_bounds-rest_of-end c = let l = c.loop-i in sym (rows_first _ l.rows l.masks l.i l.invariant)

pub slice_bounds-masks-end : goal.slice_bounds-masks-end
slice_bounds-masks-end c = let R = c.loop-i.invariant in omega (arith, R.masked, R.room)

pub slice_bounds-rest_of-end-in-loop-i : goal.slice_bounds-rest_of-end-in-loop-i
slice_bounds-rest_of-end-in-loop-i c = let l = c.loop-i in sym (masks_first _ l.rows l.masks l.i l.invariant)

pub rest_of-r-requires : goal.rest_of-r-requires
rest_of-r-requires c = let l = c.loop-i in first_fit _ l.rows l.masks l.i l.invariant

pub loop-i-preserved : goal.loop-i-preserved
loop-i-preserved c =
    let l = c.loop-i in
    let r = c.rest_of-r in
    tracking_next c.args.products.now l.rows l.masks l.i l.invariant c.loop-i-test.true c.requires r.result.form r.result.mask r.ensures.0 r.ensures.1

pub returns : goal.returns
returns c =
    let l = c.loop-i in
    let xs : List ℕ = c.args.products.now in
    let e : l.i ≡ length xs = omega (arith, c.loop-i-test.false) in
    subst (Tracking xs l.rows l.masks) e l.invariant
