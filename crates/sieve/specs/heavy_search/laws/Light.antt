-- The weights that are too light.
--   points_shift, points_some   how many values there are: by a shift, and at least one
--   light_none, light_most      0 is light; so is the largest weight below its part of what is needed
-- Assumes nothing.
use Rattle.std.specs.Prelude.{◌≡◌, ◌≢◌, ℕ, ◌-◌, ◌*◌, ◌/◌, ◌%◌, ◌^◌, ◌<◌, ◌≤◌}
use Rattle.std.proofs.Common.{ap, subst, inl, inr, mul-le-mul_left, arith, pow_mono}
use Rattle.std.proofs.Math.Nat.{mul-div-le}
use Rattle.linear.proofs.laws.Shift.{one_shift}
use Rattle.residues.specs.children.Weighed.{points, Light}

pub points_shift : (missing : ℕ) → missing ≤ 8 → 1 * 2 ^ missing % 2 ^ 64 - 1 ≡ points missing
unfolding points
points_shift missing l = ap (λ (m : ℕ). m - 1) (one_shift missing (omega arith))

pub points_some : (missing : ℕ) → missing ≢ 0 → 1 ≤ points missing
unfolding points
points_some missing n = let l : 1 ≤ missing = omega arith in let p : 2 ^ 1 ≤ 2 ^ missing = pow_mono l in omega arith

pub light_none : (k m n : ℕ) → Light k m n 0
light_none k m n = record { less = λ r l. inl (omega arith) }

pub light_most : (k m n p : ℕ) → n < k → p ≡ points m → Light k m n ((k - n - 1) / p)
light_most k m n p l e = record { less = λ r b. inr (subst (λ (q : ℕ). q * r < k - n) e (omega (arith, mul-le-mul_left p b, mul-div-le (k - n - 1) p))) }
