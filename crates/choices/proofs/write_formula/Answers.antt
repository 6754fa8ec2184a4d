-- `choices::write_formula` meets its contract. Assumes nothing.
use native.Mathlib.Omega.{arith}
use Rattle.choices.specs.laws.Writing.{numbers_length, forms_length, record_written}
use Rattle.choices.proofs.write_formula.Goals as goal

pub slice_bounds-copy-end : goal.slice_bounds-copy-end
slice_bounds-copy-end c = numbers_length c.args.c c.requires.0

pub copy-requires : goal.copy-requires
copy-requires c =
    let args = c.args in
    let pre = c.requires in
    let e = numbers_length args.c pre.0 in let h = pre.1 in omega arith

pub slice_bounds-put_rows-end : goal.slice_bounds-put_rows-end
slice_bounds-put_rows-end c =
    let args = c.args in
    let pre = c.requires in
    forms_length args.c pre.0

pub put_rows-requires : goal.put_rows-requires
put_rows-requires c =
    let args = c.args in
    let pre = c.requires in
    let copy = c.copy in
    let e = forms_length args.c pre.0 in let W = pre.0 in let r = W.room in let h = pre.1 in
    (omega arith, omega (arith, copy.auto.out), pre.2)

pub returns : goal.returns
returns c =
    let args = c.args in
    let pre = c.requires in
    let copy = c.copy in
    record_written args.c args.targets.now args.out.now _ _ args.at pre.0 pre.1 copy.ensures
    c.put_rows.ensures
