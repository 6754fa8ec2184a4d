-- `rank_text::put_formula` meets its contract. Assumes nothing.
use mathlib.Core.Path.{sym}
use native.Mathlib.Omega.{arith}
use lib.Seq.{length-take-le}
use Rattle.rank_text.specs.laws.Rank.{formula_short, formula_piece}
use Rattle.rank_text.proofs.put_formula.Goals as goal

pub slice_bounds-rank_text-end : goal.slice_bounds-rank_text-end
slice_bounds-rank_text-end c =
    let args = c.args in
    let pre = c.requires in
    let l = pre.0 in let h = pre.1 in sym (length-take-le args.n args.formula.now (omega arith))

pub rank_text-requires : goal.rank_text-requires
rank_text-requires c =
    let args = c.args in
    let pre = c.requires in
    formula_short args.n args.t args.formula.now pre.0

pub returns : goal.returns
returns c =
    let args = c.args in
    let pre = c.requires in
    formula_piece args.n args.t args.formula.now args.shape args.k args.ell args.page.now _ _
    pre.1 c.rank_text.ensures
