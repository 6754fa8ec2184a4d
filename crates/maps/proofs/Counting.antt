-- Counting generators without overflow.
--   count_is, count_many   the answer, from the count
--   count_none_left, count_none_right   no variables, no generators
--   many_left, many_right  13 variables on one side make too many
--   narrow, low            2 ^ m of at most 12 bits, and 2 ^ m − 1 as the machine makes it
--   counted, product_fits  the count as the machine makes it, and that it fits
--   base_some              2 ^ m − 1 as the machine makes it is not 0
--   numbered_mask          of a number of a menu that is not refused the masks can be made
-- Assumes nothing.
use mathlib.Core.Path.{◌≡◌, refl, sym, ap, ap₂, ◌∙◌}
use Rattle.std.specs.Prelude.{None, Some}
use Prim.Native.Nat.{ℕ, zero, suc, ◌-◌, ◌*◌, ◌%◌, ◌^◌, ◌<◌, ◌≤◌}
use native.Mathlib.Nat.{mul-le-mul, mul-zero, zero-mul}
use native.Mathlib.Decide.{dec_le}
use native.Mathlib.Omega.{arith}
use lib.Dec.{leb}
use lib.Pow.{pow_mono, pow_pos}
use borrow.Author.Tests.{leb-true}
use Rattle.kinds.specs.laws.Sizes.{given_yes, given_no}
use borrow.Author.Tests.{le-leb}
use Rattle.linear.proofs.laws.Shift.{one_shift}
use Rattle.maps.specs.Generators.{generator_count, count_of, Numbered, MaskNumber}
use Rattle.kinds.specs.Limits.{most_generators}

module _ (n m : ℕ) where
  pub count_is : (c : ℕ) → c ≡ generator_count n m → c ≤ most_generators → count_of n m ≡ Some c
  unfolding count_of
  count_is c e h = given_yes (leb (generator_count n m) most_generators) (generator_count n m) (le-leb (generator_count n m) most_generators (omega arith)) ∙ ap Some (sym e)

  pub count_many : most_generators < generator_count n m → count_of n m ≡ None
  unfolding count_of
  count_many h = given_no (leb (generator_count n m) most_generators) (generator_count n m) (λ e. let l = leb-true (generator_count n m) most_generators e in omega arith)

  pub count_none_left : n ≡ 0 → 0 ≡ generator_count n m
  unfolding generator_count
  count_none_left e = sym (ap (λ (x : ℕ). (2 ^ x - 1) * (2 ^ m - 1)) e ∙ zero-mul (2 ^ m - 1))

  pub count_none_right : m ≡ 0 → 0 ≡ generator_count n m
  unfolding generator_count
  count_none_right e = sym (ap (λ (x : ℕ). (2 ^ n - 1) * (2 ^ x - 1)) e ∙ mul-zero (2 ^ n - 1))

wide : (n : ℕ) → 12 < n → 8191 ≤ 2 ^ n - 1
wide n h = let p : 2 ^ 13 ≤ 2 ^ n = pow_mono h in omega arith

pub narrow : (n : ℕ) → n ≤ 12 → 2 ^ n ≤ 4096
narrow n h = let p : 2 ^ n ≤ 2 ^ 12 = pow_mono h in omega arith

any : (n : ℕ) → 0 < n → 1 ≤ 2 ^ n - 1
any n h = let p : 2 ^ 1 ≤ 2 ^ n = pow_mono h in omega arith

pub many_left : (n m : ℕ) → 12 < n → 0 < m → most_generators < generator_count n m
unfolding generator_count
many_left n m h k = let p : 8191 * 1 ≤ (2 ^ n - 1) * (2 ^ m - 1) = mul-le-mul (wide n h) (any m k) in omega arith

pub many_right : (n m : ℕ) → 0 < n → 12 < m → most_generators < generator_count n m
unfolding generator_count
many_right n m h k = let p : 1 * 8191 ≤ (2 ^ n - 1) * (2 ^ m - 1) = mul-le-mul (any n h) (wide m k) in omega arith

-- ---- 2 ^ m − 1 as the machine makes it
pub record Low (m : ℕ) : Type 0 where
  pub shift : m < 64
  pub some : 1 ≤ 1 * 2 ^ m % 2 ^ 64
  pub same : 1 * 2 ^ m % 2 ^ 64 - 1 ≡ 2 ^ m - 1
  pub small : 1 * 2 ^ m % 2 ^ 64 - 1 ≤ most_generators

pub low : (m : ℕ) → m ≤ 12 → Low m
low m h =
    let e = one_shift m (omega arith) in
    record { shift = omega arith; some = omega (arith, e, pow_pos m); same = ap (λ (x : ℕ). x - 1) e; small = omega (arith, e, narrow m h) }

pub base_some : (m : ℕ) → 1 ≤ m → m ≤ 12 → 0 < 1 * 2 ^ m % 2 ^ 64 - 1
base_some m s h = omega (arith, (low m h).same, any m s)

pub counted : (n m : ℕ) → n ≤ 12 → m ≤ 12 → (1 * 2 ^ n % 2 ^ 64 - 1) * (1 * 2 ^ m % 2 ^ 64 - 1) ≡ generator_count n m
unfolding generator_count
counted n m h k = ap₂ ◌*◌ (low n h).same (low m k).same

pub product_fits : (a b : ℕ) → a ≤ most_generators → b ≤ most_generators → a * b ≤ 16769025
product_fits a b h k = mul-le-mul h k

-- ---- a menu that is not refused
module _ (n m j : ℕ) (N : Numbered n m j) where
  positive : (x y : ℕ) → 0 < x * y → (0 < x) × (0 < y)
  positive zero y h = absurd (omega (arith, h, zero-mul y))
  positive (suc x) zero h = absurd (omega (arith, h, mul-zero (suc x)))
  positive (suc x) (suc y) h = (omega arith, omega arith)

  factors : (0 < 2 ^ n - 1) × (0 < 2 ^ m - 1)
  unfolding generator_count
  factors = positive (2 ^ n - 1) (2 ^ m - 1) (let h = N.below in omega arith)

  -- a side that has a mask has a variable
  variables : (x n : ℕ) → 0 < x → 2 ^ n - 1 ≡ x → 0 < n
  variables x zero h e = absurd (omega arith)
  variables x (suc n) h e = omega arith

  few_right : m ≤ 12
  few_right = go (dec_le m 12)
    where
      pos : 0 < n
      pos = variables (2 ^ n - 1) n factors.0 refl

      go : Dec (m ≤ 12) → m ≤ 12
      go (yes l) = l
      go (no l) = absurd (let h = N.few in omega (arith, h, many_right n m pos (omega arith)))

  pub numbered_mask : MaskNumber m j
  numbered_mask =
      record {
        some = variables (2 ^ m - 1) m factors.1 refl;
        narrow = few_right;
        few = (let a = N.below in let b = N.few in omega arith);
      }
