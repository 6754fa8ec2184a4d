-- `selections::on_forms::rest_over` meets its contract. Assumes nothing.
use native.Mathlib.Omega.{arith}
use Rattle.selections.proofs.laws.of_on_forms.Replies.{forms_fit, rows_here, masks_here, rest_over}
use Rattle.selections.proofs.on_forms.rest_over.Goals as goal

pub slice_bounds-echelon_of-end : goal.slice_bounds-echelon_of-end
slice_bounds-echelon_of-end c =
    forms_fit c.args.c c.requires

pub echelon_of-e-requires : goal.echelon_of-e-requires
echelon_of-e-requires c =
    omega (arith, forms_fit c.args.c c.requires, c.requires.whole.room)

pub slice_bounds-rest_of-end : goal.slice_bounds-rest_of-end
slice_bounds-rest_of-end c =
    let e = c.echelon_of-e in
    rows_here c.args.c c.requires e.result e.ensures

pub slice_bounds-rest_of-end-2 : goal.slice_bounds-rest_of-end-2
slice_bounds-rest_of-end-2 c =
    let e = c.echelon_of-e in
    masks_here c.args.c c.requires e.result e.ensures

pub rest_of-requires : goal.rest_of-requires
rest_of-requires c =
    let a = c.args in
    let e = c.echelon_of-e in
    omega (arith, rows_here a.c c.requires e.result e.ensures, masks_here a.c c.requires e.result e.ensures)

pub returns : goal.returns
returns c =
    let e = c.echelon_of-e in
    let r = c.rest_of in
    rest_over c.args.c c.requires e.result e.ensures c.args.form r.result r.ensures.0 r.ensures.1
