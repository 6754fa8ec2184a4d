-- `forms::products::mask` meets its contract. Assumes nothing.
use mathlib.Core.Path.{◌≡◌, ap, ◌∙◌}
use Prim.Native.Nat.{ℕ, ◌-◌, ◌^◌, min}
use native.Mathlib.Omega.{arith}
use lib.Pow.{pow_pos}
use Rattle.linear.proofs.laws.Shift.{one_shift}
use Rattle.forms.proofs.products.mask.Goals as goal

pub overflow_sub-result : goal.overflow_sub-result
overflow_sub-result c = let m : ℕ = c.args.m in omega (arith, one_shift m (omega arith), pow_pos m)

pub returns-then-m-lt64 : goal.returns-then-m-lt64
returns-then-m-lt64 c =
    let m : ℕ = c.args.m in
    let e : m ≡ min m 64 = omega arith in
    ap (λ (x : ℕ). x - 1) (one_shift m (omega arith)) ∙ ap (λ (k : ℕ). 2 ^ k - 1) e

pub returns-else-m-lt64 : goal.returns-else-m-lt64
returns-else-m-lt64 c =
    let m : ℕ = c.args.m in
    let e : 64 ≡ min m 64 = omega arith in
    ap (λ (k : ℕ). 2 ^ k - 1) e
