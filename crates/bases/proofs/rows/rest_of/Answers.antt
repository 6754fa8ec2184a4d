-- `bases::rows::rest_of` meets its contract: the rows from i on, of what is left, leave and take what all do of v. Assumes nothing.
use mathlib.Core.Path.{◌≡◌, sym, subst₂}
use mathlib.Core.List.{List}
use Prim.Native.Nat.{ℕ, ◌+◌}
use native.Mathlib.Omega.{arith}
use Rattle.bases.proofs.laws.of_rows.Rest.{Resting, resting_start, resting_added, resting_kept, resting_end}
use Rattle.bases.proofs.rows.rest_of.Goals as goal
use Rattle.bases.proofs.rows.rest_of.Goals.{else-w-form, then-w-form}

-- the same state, by what the code holds
at : (B M : List ℕ) (v i : ℕ) {x x' m m' : ℕ} → x' ≡ x → m' ≡ m → Resting B M v x m i → Resting B M v x' m' i
at B M v i p q R = subst₂ (λ (x m : ℕ). Resting B M v x m i) (sym p) (sym q) R

pub loop-i-init : goal.loop-i-init
loop-i-init c = resting_start c.args.rows.now c.args.masks.now c.args.v

pub loop-i-preserved : goal.loop-i-preserved
loop-i-preserved c =
    let a = c.args in
    let l = c.loop-i in
    let B = a.rows.now in
    let M = a.masks.now in
    let v = a.v in
    let pre = c.requires in
    let test = c.loop-i-test.true in
    elim c.if-w-form.branch [
      | then-w-form w ↦ at B M v (l.i + 1) w.form-is w.mask-is (resting_added B M v l.form l.mask l.i l.invariant test pre w.if-w-form.true)
      | else-w-form w ↦ at B M v (l.i + 1) w.form-is w.mask-is (resting_kept B M v l.form l.mask l.i l.invariant test pre w.if-w-form.false)
    ]

pub returns : goal.returns
returns c =
    let a = c.args in
    let l = c.loop-i in
    resting_end a.rows.now a.masks.now a.v l.form l.mask l.i l.invariant (omega arith)
