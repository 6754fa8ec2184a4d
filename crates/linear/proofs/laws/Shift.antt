-- Coordinates of the numbers that a machine's operations make.
-- bit-mod: below w a number and its remainder by 2 ^ w have the same coordinates.
-- bit_shift_low, bit-shift: a shift by k puts 0 below k, and coordinate t at k + t.
-- one_shift: 1 shifted by less than 64 is a power of two.
-- bit_test, bit_set, bit-unset: the lowest bit after a shift by t, masked, tells coordinate t.
-- top_is, top_leading, top-zero: the lead from bounds, and from the count of zeros above it; that of 0 is 0.
-- Assumes nothing.
use Rattle.std.specs.Prelude.{◌≡◌, refl, ◌≢◌, true, false, ℕ, zero, suc, ◌+◌, ◌-◌, ◌*◌, ◌/◌, ◌%◌, ◌^◌, ◌<◌, ◌≤◌, eqb}
use Rattle.std.proofs.Common.{sym, ap, ◌∙◌, mod-lt, mul_comm, mul_assoc, one-mul, zero-lt-suc, arith, pow-add, shl_exact, shr-shr}
use Rattle.std.proofs.Math.Nat.{mul-mod_right}
use Rattle.std.specs.Int.Bits.{bit_and}
use Rattle.std.proofs.lemmas.Nat.{and_mask, leading_top, shl-shr}
use Rattle.std.specs.Int.Count.{count_leading_zeros}
use Rattle.std.proofs.Math.Pow.{field, mod-mod-pow}
use Rattle.linear.specs.Bit.{bit, bit_of, digits_of, top}
use Rattle.linear.specs.laws.Bit.{top_is}

-- a number above t is t, and one more, and the rest
above : {t w : ℕ} → t < w → w ≡ (w - suc t + 1) + t
above l = omega arith

pub bit_mod : (v w t : ℕ) → t < w → bit (v % 2 ^ w) t ≡ bit v t
unfolding bit
bit_mod v w t l =
    ap (λ (k : ℕ). bit_of (v % 2 ^ k / 2 ^ t % 2)) (above l)
    ∙ ap (λ (x : ℕ). bit_of (x % 2)) (field v (w - suc t + 1) t)
    ∙ ap bit_of (mod-mod-pow (v / 2 ^ t) (w - suc t) 1)

pub bit_shift_low : (v k t : ℕ) → t < k → bit (v * 2 ^ k) t ≡ false
unfolding bit
bit_shift_low v k t l =
    ap (λ (x : ℕ). bit_of (x % 2)) (ap (λ (n : ℕ). n / 2 ^ t) split ∙ shl-shr (v * 2 ^ (k - suc t) * 2) t)
    ∙ ap bit_of (ap (λ (x : ℕ). x % 2) (mul_comm (v * 2 ^ (k - suc t)) 2) ∙ mul-mod_right 2 (v * 2 ^ (k - suc t)))
  where
    split : v * 2 ^ k ≡ v * 2 ^ (k - suc t) * 2 * 2 ^ t
    split =
        ap (λ (n : ℕ). v * 2 ^ n) (above l)
        ∙ ap (λ (n : ℕ). v * n) (pow-add 2 (k - suc t + 1) t ∙ ap (λ (n : ℕ). n * 2 ^ t) (pow-add 2 (k - suc t) 1))
        ∙ sym (mul_assoc v (2 ^ (k - suc t) * 2) (2 ^ t))
        ∙ ap (λ (n : ℕ). n * 2 ^ t) (sym (mul_assoc v (2 ^ (k - suc t)) 2))

pub bit_shift : (v k t : ℕ) → bit (v * 2 ^ k) (k + t) ≡ bit v t
unfolding bit
bit_shift v k t =
    ap (λ (x : ℕ). bit_of (x % 2)) (sym (shr-shr (v * 2 ^ k) k t) ∙ ap (λ (x : ℕ). x / 2 ^ t) (shl-shr v k))

pub one_shift : (m : ℕ) → m < 64 → 1 * 2 ^ m % 2 ^ 64 ≡ 2 ^ m
one_shift m h = shl_exact {a = 1} 1 m 64 (omega arith) (omega arith) ∙ one-mul (2 ^ m)

-- ---- a coordinate, tested
pub bit_test : (v t : ℕ) → eqb (bit_and (v / 2 ^ t) 1) 1 ≡ bit v t
unfolding bit
bit_test v t = ap (λ (d : ℕ). eqb d 1) (and_mask (v / 2 ^ t) 1) ∙ go (v / 2 ^ t % 2) (mod-lt (v / 2 ^ t) (zero-lt-suc 1))
  where
    go : (d : ℕ) → d < 2 → eqb d 1 ≡ bit_of d
    go zero h = refl
    go (suc zero) h = refl
    go (suc (suc d)) h = absurd (omega arith)

pub bit_set : (v t : ℕ) → bit_and (v / 2 ^ t) 1 ≡ 1 → bit v t ≡ true
bit_set v t e = sym (bit_test v t) ∙ ap (λ (d : ℕ). eqb d 1) e

pub bit_unset : (v t : ℕ) → (bit_and (v / 2 ^ t) 1 ≡ 1 → ⊥) → bit v t ≡ false
unfolding bit
bit_unset v t n =
    let q : v / 2 ^ t % 2 ≡ 0 = omega (arith, n, and_mask (v / 2 ^ t) 1, mod-lt (v / 2 ^ t) (zero-lt-suc 1)) in
    ap bit_of q

-- ---- the lead
pub top_leading : (v : ℕ) → v ≢ 0 → v < 2 ^ 64 → (count_leading_zeros 64 v ≤ 63) × (63 - count_leading_zeros 64 v ≡ top v)
top_leading v n h =
    let p : 0 < v = omega arith in
    let r = leading_top 64 v p h in
    let s = r.1 in
    let e = top_is v r.0 r.2 r.3 in
    (omega arith, omega arith)

pub top_zero : top 0 ≡ 0
unfolding top digits_of
top_zero = refl
