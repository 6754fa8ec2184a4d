-- `choices::put_rows` meets its contract: what was taken from a target by the reduced products is its row. Assumes nothing.
use native.Mathlib.Omega.{arith}
use mathlib.Core.Path.{◌≡◌, sym, ◌∙◌}
use Prim.Native.Nat.{◌<◌}
use lib.ListN.{length, take, get_or}
use Rattle.linear.proofs.laws.Order.{mem_get_d}
use Rattle.bases.specs.rows.Rows.{row_of}
use Rattle.bases.proofs.laws.of_rows.Echelon.{rows_first, masks_first, first_fit, rest_row}
use Rattle.choices.specs.laws.Writing.{writing_start, writing_next, writing_end}
use Rattle.choices.proofs.put_rows.Goals as goal

pub echelon_of-e-requires : goal.echelon_of-e-requires
echelon_of-e-requires c = c.requires.0

pub loop-i-init : goal.loop-i-init
loop-i-init c =
    let args = c.args in
    writing_start (row_of args.products.now) args.targets.now args.out.now args.at

pub slice_bounds-rest_of-end : goal.slice_bounds-rest_of-end
slice_bounds-rest_of-end c = sym ((let it : (let e = c.echelon_of-e.result in let n = length c.args.products.now in
    (length (take n e.rows) ≡ n) × (length (take n e.masks) ≡ n)) = let e = c.echelon_of-e in let xs = c.args.products.now in
    (rows_first xs e.result.rows e.result.masks (length xs) e.ensures, masks_first xs e.result.rows e.result.masks (length xs) e.ensures) in it)).0

pub slice_bounds-rest_of-end-in-loop-i : goal.slice_bounds-rest_of-end-in-loop-i
slice_bounds-rest_of-end-in-loop-i c = sym ((let it : (let e = c.echelon_of-e.result in let n = length c.args.products.now in
    (length (take n e.rows) ≡ n) × (length (take n e.masks) ≡ n)) = let e = c.echelon_of-e in let xs = c.args.products.now in
    (rows_first xs e.result.rows e.result.masks (length xs) e.ensures, masks_first xs e.result.rows e.result.masks (length xs) e.ensures) in it)).1

pub rest_of-requires : goal.rest_of-requires
rest_of-requires c =
    let e = c.echelon_of-e in
    first_fit c.args.products.now e.result.rows
    e.result.masks _ e.ensures

pub bounds-out-at : goal.bounds-out-at
bounds-out-at c =
    omega (arith, c.loop-i.invariant.same, c.requires.1)

pub loop-i-preserved : goal.loop-i-preserved
loop-i-preserved c =
    let a = c.args in
    let e = c.echelon_of-e in
    let l = c.loop-i in
    let t : l.i < length a.targets.now = omega arith in
    let v = get_or a.targets.now l.i 0 in
    writing_next (row_of a.products.now) a.targets.now a.out.now a.at l.out l.i _ l.invariant t c.requires.1
    (c.rest_of.ensures.1
    ∙ rest_row a.products.now e.result e.ensures v c.requires.2.independent (c.requires.2.computes v (mem_get_d a.targets.now l.i 0 t)))

pub shape_of-out : goal.shape_of-out
shape_of-out c = c.loop-i.invariant.same

pub returns : goal.returns
returns c =
    let args = c.args in
    writing_end (row_of args.products.now) args.targets.now args.out.now args.at c.loop-i.out c.loop-i.i
    c.loop-i.invariant (omega arith)
