-- `forms::products::product` meets its contract: after i turns the form has the rows of the first i variables a. Assumes nothing.
use mathlib.Core.Path.{◌≡◌, ap, ◌∙◌}
use Prim.Native.Nat.{ℕ, ◌-◌, ◌^◌, min}
use native.Mathlib.Omega.{arith}
use lib.Bits.{bit_and}
use Rattle.forms.specs.products.Product.{form_of, term, product_form}
use Rattle.forms.proofs.Making.{Small, making_start, making_end, making_small, making_set, making_unset}
use Rattle.forms.proofs.products.product.Goals as goal
use Rattle.forms.proofs.products.product.Goals.{then-a-i-eq1, else-a-i-eq1}
use Rattle.forms.proofs.products.product.Goals.{In-loop-at}

-- the sizes at a turn
small : (c : In-loop-at) → let a = c.args in Small a.n a.m c.loop-at.i c.loop-at.at
small c =
    let a = c.args in
    let w = c.width-end in
    let l = c.loop-at in
    making_small a.n a.m w.result l.i l.at w.ensures l.invariant.place c.loop-at-test.true (omega arith)

pub loop-at-init : goal.loop-at-init
loop-at-init c = let a = c.args in making_start a.m a.a a.b c.width-end.result

pub overflow_shr-a : goal.overflow_shr-a
overflow_shr-a c = (small c).low

pub overflow_shl-form : goal.overflow_shl-form
overflow_shl-form c = (small c.before).shift

pub overflow_add-i : goal.overflow_add-i
overflow_add-i c = record { fits = omega (arith, (small c.before).low) }

pub overflow_add-at : goal.overflow_add-at
overflow_add-at c = record { fits = (small c.before).fits }

pub loop-at-smaller : goal.loop-at-smaller
loop-at-smaller c = omega (arith, (small c.before).some)

pub loop-at-preserved : goal.loop-at-preserved
loop-at-preserved c =
    let a = c.args in
    let w = c.width-end in
    let l = c.loop-at in
    let h = c.loop-at-test.true in
    let s = small c.before in
    let row : ℕ = bit_and a.b c.mask.result in
    let e : row ≡ bit_and a.b (2 ^ min a.m 64 - 1) = ap (λ (k : ℕ). bit_and a.b k) c.mask.ensures in
    elim c.if-a-i-eq1.branch [
      | then-a-i-eq1 t ↦
          making_set a.n a.m a.a a.b w.result l.form l.i l.at row w.ensures e l.invariant h s c.if-a-i-eq1.form t.if-a-i-eq1.true t.form-is
      | else-a-i-eq1 t ↦
          making_unset a.n a.m a.a a.b w.result l.form l.i l.at row w.ensures e l.invariant h s c.if-a-i-eq1.form t.if-a-i-eq1.false t.form-is
    ]

pub returns : goal.returns
unfolding product_form
returns c =
    let a = c.args in
    let w = c.width-end in
    let l = c.loop-at in
    making_end a.m a.a a.b w.result l.form l.i l.at l.invariant (omega arith)
    ∙ ap (λ (k : ℕ). form_of k (term a.m a.a a.b)) w.ensures
