-- `turning::reversed` meets its contract: after i turns the form has its bits below i. Assumes nothing.
use mathlib.Core.Path.{◌≡◌, refl, sym, ap, ◌∙◌}
use Prim.Native.Nat.{ℕ}
use native.Mathlib.Omega.{arith}
use Rattle.std.proofs.lemmas.Nat.{xor_comm}
use Rattle.forms.specs.products.Product.{form_of}
use Rattle.forms.specs.products.laws.Product.{form_set, form_unset}
use Rattle.turning.proofs.reversed.Goals as goal
use Rattle.turning.proofs.reversed.Goals.{else-coordinate, then-coordinate}
use Rattle.turning.proofs.reversed.Invariants.{bits}

pub loop-i-init : goal.loop-i-init
unfolding form_of
loop-i-init c = refl

pub loop-i-preserved : goal.loop-i-preserved
loop-i-preserved c =
    let a = c.args in
    let l = c.loop-i in
    let q = c.coordinate.ensures in
    elim c.if-coordinate.branch [
      | then-coordinate w ↦
          w.form-is ∙ xor_comm l.form _ ∙ form_set (bits a.n a.x) l.i l.form l.invariant (sym q ∙ w.if-coordinate.true) (omega arith)
      | else-coordinate w ↦ w.form-is ∙ form_unset (bits a.n a.x) l.i l.form l.invariant (sym q ∙ w.if-coordinate.false)
    ]

pub returns : goal.returns
returns c =
    let a = c.args in
    let l = c.loop-i in
    let e : l.i ≡ a.n = omega arith in
    l.invariant ∙ ap (λ (w : ℕ). form_of w (bits a.n a.x)) e
