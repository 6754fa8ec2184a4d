-- `records::keep` meets its contract: the entry is counted up to the limit, and written where it fits. Assumes nothing.
use native.Mathlib.Omega.{arith}
use mathlib.Core.Path.{sym, ◌∙◌}
use mathlib.Core.List.{◌++◌}
use Rattle.bases.specs.Basis.{rows_of, rows_length}
use Rattle.records.specs.Keep.{chain_of}
use Rattle.records.specs.laws.Counted.{sane_counting, kept_unshown, kept_room, kept_shown}
use Rattle.records.proofs.Keeping.{chain_length, lengths_fit, record_length_law, written}
use Rattle.records.proofs.keep.Goals as goal

pub overflow_add-c : goal.overflow_add-c
overflow_add-c c = lengths_fit c.requires

pub count-r-requires : goal.count-r-requires
count-r-requires c = sane_counting c.args.limit c.args.t c.args.out.now c.requires.sane

pub returns-then-r-t : goal.returns-then-r-t
returns-then-r-t c =
    let args = c.args in
    let pre = c.requires in
    let count = c.count-r in
    kept_unshown args.limit args.t _ args.out.now (chain_of args.c ++ rows_of args.b) count.result (record_length_law pre) count.ensures
    c.if-r-t.true

pub slice_bounds-copy-end : goal.slice_bounds-copy-end
slice_bounds-copy-end c =
    let args = c.args in
    let pre = c.requires in
    sym (chain_length args.c 0 pre.tidy)

pub copy-requires : goal.copy-requires
copy-requires c =
    let args = c.args in
    let pre = c.requires in
    let count = c.count-r in
    let if1 = c.if-r-t in
    let r = kept_room args.limit args.t _ args.out.now (chain_of args.c ++ rows_of args.b) count.result (record_length_law pre) count.ensures
    if1.false in
    omega (arith, r, chain_length args.c 0 pre.tidy)

pub slice_bounds-copy-end-2 : goal.slice_bounds-copy-end-2
slice_bounds-copy-end-2 c =
    let args = c.args in
    let pre = c.requires in
    sym (rows_length args.b pre.valid)

pub overflow_add-t : goal.overflow_add-t
overflow_add-t c =
    let args = c.args in
    let good = c.well_formed in
    let pre = c.requires in
    let count = c.count-r in
    let if1 = c.if-r-t in
    let r = kept_room args.limit args.t _ args.out.now (chain_of args.c ++ rows_of args.b) count.result (record_length_law pre) count.ensures
    if1.false in
    record { fits = omega (arith, r, good.1.1.1.1.0.0) }

pub copy-requires-2 : goal.copy-requires-2
copy-requires-2 c =
    let args = c.args in
    let pre = c.requires in
    let count = c.count-r in
    let if1 = c.if-r-t in
    let copy = c.copy in
    let r = kept_room args.limit args.t _ args.out.now (chain_of args.c ++ rows_of args.b) count.result (record_length_law pre) count.ensures
    if1.false in
    omega (arith, r, rows_length args.b pre.valid, copy.auto.out)

pub shape_of-out : goal.shape_of-out
shape_of-out c = c.copy-2.auto.out ∙ c.copy.auto.out

pub returns : goal.returns
returns c =
    let args = c.args in
    let pre = c.requires in
    let count = c.count-r in
    let if1 = c.if-r-t in
    let copy = c.copy in
    let copy2 = c.copy-2 in
    let p = chain_of args.c in
    let q = rows_of args.b in
    let l = record_length_law pre in
    let r = kept_room args.limit args.t _ args.out.now (p ++ q) count.result l count.ensures if1.false in
    kept_shown args.limit args.t _ args.out.now (p ++ q) count.result l count.ensures if1.false copy2.new.out
    (written args.out.now args.t.at p q args.c.len _ copy.new.out copy2.new.out (chain_length args.c 0 pre.tidy) l r
    copy.ensures copy2.ensures)
