-- `formula_check::verdict_on` meets its contract. Assumes nothing.
use mathlib.Core.Path.{sym, ap, ◌∙◌}
use mathlib.Core.List.{List}
use Prim.Native.Nat.{ℕ}
use native.Mathlib.Omega.{arith}
use lib.ListN.{length}
use lib.Seq.{length-take-le}
use Rattle.formula_check.specs.Formula.{first_wrong}
use Rattle.formula_check.proofs.verdict_on.Goals as goal

pub slice_bounds-first_wrong-end : goal.slice_bounds-first_wrong-end
slice_bounds-first_wrong-end c =
    let args = c.args in
    let pre = c.requires in
    sym
    (length-take-le (length args.a.now) c.product_forms.new.out
    (let w = c.product_forms.ensures.whole in let f = pre.few in omega arith))

pub first_wrong-requires : goal.first_wrong-requires
first_wrong-requires c =
    let args = c.args in
    let pre = c.requires in
    let products = c.product_forms in
    let w = products.ensures.whole in
    let f = pre.few in
    let e = length-take-le (length args.a.now) products.new.out (omega arith) in
    record { sized = pre.sized; few = omega arith }

pub returns : goal.returns
returns c =
    let args = c.args in
    ap (λ (fs : List ℕ). first_wrong args.shape args.n args.m fs args.rows.now 0)
    (sym c.product_forms.ensures.start) ∙ c.first_wrong.ensures
