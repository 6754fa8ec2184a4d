-- `turning::column` meets its contract: after t turns the form has the bits of the first t masks. Assumes nothing.
use mathlib.Core.Path.{◌≡◌, refl, sym, ap, ◌∙◌}
use Prim.Native.Nat.{ℕ}
use native.Mathlib.Omega.{arith}
use lib.ListN.{length}
use Rattle.std.proofs.lemmas.Nat.{xor_comm}
use Rattle.forms.specs.products.Product.{form_of}
use Rattle.forms.specs.products.laws.Product.{form_set, form_unset}
use Rattle.turning.proofs.column.Goals as goal
use Rattle.turning.proofs.column.Goals.{else-coordinate, then-coordinate}
use Rattle.turning.proofs.column.Invariants.{bits}

pub loop-t-init : goal.loop-t-init
unfolding form_of
loop-t-init c = refl

pub loop-t-preserved : goal.loop-t-preserved
loop-t-preserved c =
    let a = c.args in
    let l = c.loop-t in
    let q = c.coordinate.ensures in
    elim c.if-coordinate.branch [
      | then-coordinate w ↦
          w.form-is ∙ xor_comm l.form _ ∙ form_set (bits a.masks.now a.l) l.t l.form l.invariant (sym q ∙ w.if-coordinate.true) (omega arith)
      | else-coordinate w ↦ w.form-is ∙ form_unset (bits a.masks.now a.l) l.t l.form l.invariant (sym q ∙ w.if-coordinate.false)
    ]

pub returns : goal.returns
returns c =
    let a = c.args in
    let l = c.loop-t in
    let e : l.t ≡ length a.masks.now = omega arith in
    l.invariant ∙ ap (λ (w : ℕ). form_of w (bits a.masks.now a.l)) e
