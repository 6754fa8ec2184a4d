-- `formula_check::sums::product_forms` meets its contract. Assumes nothing.
use Rattle.std.proofs.Common.{◌≡◌, refl, sym, ap, ◌∙◌, ◌++◌, ℕ, ◌+◌, length, take, drop, set, length-set, arith}
use Rattle.formula_check.specs.sums.Sums.{product_forms}
use Rattle.formula_check.proofs.laws.of_sums.Loops.{forms_next, forms_end}
use Rattle.formula_check.proofs.sums.product_forms.Goals as goal

pub loop-i-init : goal.loop-i-init
loop-i-init c = (c.requires.2, refl)

pub loop-i-preserved : goal.loop-i-preserved
loop-i-preserved c =
    let a = c.args in
    let l = c.loop-i in
    let xs = a.a.now in
    let ys = a.b.now in (
      length-set l.out l.i c.product.result ∙ l.invariant.0,
      ap (λ (f : ℕ). take (l.i + 1) (set l.out l.i f) ++ product_forms a.n a.m (drop (l.i + 1) xs) (drop (l.i + 1) ys)) c.product.ensures
          ∙ forms_next a.n a.m xs ys l.i l.out (product_forms a.n a.m xs ys) (omega arith) (omega arith) (omega arith) l.invariant.1,
    )

pub returns : goal.returns
returns c =
    let a = c.args in
    let l = c.loop-i in
    let xs = a.a.now in
    let ys = a.b.now in
    let e : l.i ≡ length xs = omega arith in
    record {
      whole = l.invariant.0;
      start = ap (λ (n : ℕ). take n l.out) (sym e) ∙ forms_end a.n a.m xs ys l.i l.out (product_forms a.n a.m xs ys) (omega arith) l.invariant.1;
    }
