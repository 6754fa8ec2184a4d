-- The laws of binary digits: those of a sum (`bit_of_xor`), of `and` and `or`; numbers with equal digits are equal (`bit_ext`); the highest digit (`top_is`, `top_span`).
-- Assumes nothing.
use Rattle.std.specs.Prelude.{◌≡◌, refl, ◌≢◌, Bool, true, false, not, ◌&&◌, ◌||◌, ℕ, zero, suc, ◌+◌, ◌-◌, ◌*◌, ◌/◌, ◌%◌, ◌^◌, ◌<◌, ◌≤◌, min, max}
use Rattle.std.proofs.Common.{sym, ap, ◌∙◌, subst, true≢false, mod-lt, pow-suc, zero-lt-suc, div-one, le_refl, arith, pow_mono, pow_pos}
use Rattle.std.proofs.lemmas.Bool.{false≢true}
use Rattle.std.proofs.Math.Nat.{div-eq_of_lt, div-eq_of_lt-le, pow-succ', suc_inj, div-div-eq-div-mul, zero-div}
use Rattle.std.proofs.Math.Decide.{dec_lt}
use Rattle.std.proofs.Math.Arith.{bin_ind, half_le}
use Rattle.std.specs.Int.Bits.{bit_xor, bit_and, bit_or, differ, xor_step, and_step, or_step}
use Rattle.std.proofs.lemmas.Nat.{xor_shr, and_shr, or_shr}
use Rattle.linear.specs.Bit.{bit_of, bit, digits_of, top, xor_b}

-- ---- a digit of a sum, and equality by digits
two_pos : 0 < 2
two_pos = zero-lt-suc 1

-- what holds at the four pairs of digits
digits : (P : ℕ → ℕ → Type 0) → P 0 0 → P 0 1 → P 1 0 → P 1 1 → (x y : ℕ) → x < 2 → y < 2 → P x y
digits P a b c d zero zero h k = a
digits P a b c d zero (suc zero) h k = b
digits P a b c d (suc zero) zero h k = c
digits P a b c d (suc zero) (suc zero) h k = d
digits P a b c d zero (suc (suc y)) h k = absurd (omega arith)
digits P a b c d (suc zero) (suc (suc y)) h k = absurd (omega arith)
digits P a b c d (suc (suc x)) y h k = absurd (omega arith)

bit_of_differ : (x y : ℕ) → x < 2 → y < 2 → bit_of (differ x y) ≡ xor_b (bit_of x) (bit_of y)
bit_of_differ = digits (λ x y. bit_of (differ x y) ≡ xor_b (bit_of x) (bit_of y)) refl refl refl refl

differ_lt : (x y : ℕ) → x < 2 → y < 2 → differ x y < 2
differ_lt = digits (λ x y. differ x y < 2) two_pos (omega arith) (omega arith) two_pos

xor_low : (a b : ℕ) → bit_xor a b % 2 ≡ differ (a % 2) (b % 2)
xor_low a b =
    let d : differ (a % 2) (b % 2) < 2 = differ_lt (a % 2) (b % 2) (mod-lt a two_pos) (mod-lt b two_pos) in
    omega (arith, xor_step a b, d)

pub bit_of_xor : (a b i : ℕ) → bit (bit_xor a b) i ≡ xor_b (bit a i) (bit b i)
unfolding bit
bit_of_xor a b i =
    ap (λ (x : ℕ). bit_of (x % 2)) (xor_shr a b i) ∙ ap bit_of (xor_low (a / 2 ^ i) (b / 2 ^ i))
    ∙ bit_of_differ (a / 2 ^ i % 2) (b / 2 ^ i % 2) (mod-lt (a / 2 ^ i) two_pos) (mod-lt (b / 2 ^ i) two_pos)

pub bit_suc : (a i : ℕ) → bit a (suc i) ≡ bit (a / 2) i
unfolding bit
bit_suc a i = ap (λ (x : ℕ). bit_of (x % 2)) (ap (λ (p : ℕ). a / p) (pow-succ' 2 i) ∙ sym (div-div-eq-div-mul a 2 (2 ^ i)))

bit_of_inj : (x y : ℕ) → x < 2 → y < 2 → bit_of x ≡ bit_of y → x ≡ y
bit_of_inj zero zero h k e = refl
bit_of_inj zero (suc y) h k e = absurd (false≢true e)
bit_of_inj (suc x) zero h k e = absurd (true≢false e)
bit_of_inj (suc x) (suc y) h k e = omega arith

low_eq : (a b : ℕ) → bit a 0 ≡ bit b 0 → a % 2 ≡ b % 2
unfolding bit
low_eq a b e = bit_of_inj (a % 2) (b % 2) (mod-lt a two_pos) (mod-lt b two_pos) (simp div-one at e)

-- numbers with the same bits are equal
pub bit_ext : (a b : ℕ) → ((i : ℕ) → bit a i ≡ bit b i) → a ≡ b
bit_ext a = bin_ind (λ (n : ℕ). (b : ℕ) → ((i : ℕ) → bit n i ≡ bit b i) → n ≡ b) base step a
  where
    step : (n : ℕ) → ((b : ℕ) → ((i : ℕ) → bit (n / 2) i ≡ bit b i) → n / 2 ≡ b) → (b : ℕ) → ((i : ℕ) → bit n i ≡ bit b i) → n ≡ b
    step n ih b h = omega (arith, low_eq n b (h 0), ih (b / 2) (λ i. sym (bit_suc n i) ∙ h (suc i) ∙ bit_suc b i))

    base : (b : ℕ) → ((i : ℕ) → bit 0 i ≡ bit b i) → 0 ≡ b
    base =
        bin_ind (λ (b : ℕ). ((i : ℕ) → bit 0 i ≡ bit b i) → 0 ≡ b) (λ h. refl)
        (λ b ih h. omega (arith, low_eq 0 b (h 0), ih (λ i. sym (bit_suc 0 i) ∙ h (suc i) ∙ bit_suc b i)))

-- ---- the highest bit
pub bit_zero : (i : ℕ) → bit 0 i ≡ false
unfolding bit
bit_zero i = ap (λ (x : ℕ). bit_of (x % 2)) (zero-div (2 ^ i))

-- ---- digits of `and` and `or`
bit_of_min : (x y : ℕ) → x < 2 → y < 2 → bit_of (min x y) ≡ bit_of x && bit_of y
bit_of_min = digits (λ x y. bit_of (min x y) ≡ bit_of x && bit_of y) refl refl refl refl

bit_of_max : (x y : ℕ) → x < 2 → y < 2 → bit_of (max x y) ≡ bit_of x || bit_of y
bit_of_max = digits (λ x y. bit_of (max x y) ≡ bit_of x || bit_of y) refl refl refl refl

and_low : (a b : ℕ) → bit_and a b % 2 ≡ min (a % 2) (b % 2)
and_low a b = omega (arith, and_step a b, mod-lt a two_pos, mod-lt b two_pos)

or_low : (a b : ℕ) → bit_or a b % 2 ≡ max (a % 2) (b % 2)
or_low a b = omega (arith, or_step a b, mod-lt a two_pos, mod-lt b two_pos)

pub bit_of_and : (a b i : ℕ) → bit (bit_and a b) i ≡ bit a i && bit b i
unfolding bit
bit_of_and a b i =
    ap (λ (x : ℕ). bit_of (x % 2)) (and_shr a b i) ∙ ap bit_of (and_low (a / 2 ^ i) (b / 2 ^ i))
    ∙ bit_of_min (a / 2 ^ i % 2) (b / 2 ^ i % 2) (mod-lt (a / 2 ^ i) two_pos) (mod-lt (b / 2 ^ i) two_pos)

pub bit_of_or : (a b i : ℕ) → bit (bit_or a b) i ≡ bit a i || bit b i
unfolding bit
bit_of_or a b i =
    ap (λ (x : ℕ). bit_of (x % 2)) (or_shr a b i) ∙ ap bit_of (or_low (a / 2 ^ i) (b / 2 ^ i))
    ∙ bit_of_max (a / 2 ^ i % 2) (b / 2 ^ i % 2) (mod-lt (a / 2 ^ i) two_pos) (mod-lt (b / 2 ^ i) two_pos)

-- ---- the highest digit
below_digits : (k n : ℕ) → n ≤ k → n < 2 ^ digits_of k n
unfolding digits_of
below_digits zero n h = omega arith
below_digits (suc k) zero h = omega arith
below_digits (suc k) (suc n) h =
    omega (arith, below_digits k (suc n / 2) (half_le h), pow-suc 2 (digits_of k (suc n / 2)))

from_digits : (k n : ℕ) → n ≤ k → (l : ℕ) → digits_of k n ≡ suc l → 2 ^ l ≤ n
unfolding digits_of
from_digits zero n h l e = absurd (omega arith)
from_digits (suc k) zero h l e = absurd (omega arith)
from_digits (suc k) (suc n) h zero e = omega arith
from_digits (suc k) (suc n) h (suc l) e =
    omega (arith, from_digits k (suc n / 2) (half_le h) l (suc_inj e), pow-suc 2 l)

pub top_above : (v i : ℕ) → top v < i → bit v i ≡ false
unfolding top bit
top_above v i h =
    let p : 2 ^ digits_of v v ≤ 2 ^ i = pow_mono (omega arith) in
    let q : v < 2 ^ i = omega (arith, below_digits v v (le_refl v), p) in
    ap (λ (x : ℕ). bit_of (x % 2)) (div-eq_of_lt q)

pub top_one : (v : ℕ) → v ≢ 0 → bit v (top v) ≢ false
unfolding top bit
top_one v n = go (digits_of v v) refl
  where
    go : (d : ℕ) → digits_of v v ≡ d → bit_of (v / 2 ^ (d - 1) % 2) ≢ false
    go zero e z = let b : v < 2 ^ 0 = subst (λ (x : ℕ). v < 2 ^ x) e (below_digits v v (le_refl v)) in n (omega arith)
    go (suc l) e z =
        let a : 1 * 2 ^ l ≤ v = omega (arith, from_digits v v (le_refl v) l e) in
        let b : v < (1 + 1) * 2 ^ l = omega (arith, subst (λ (x : ℕ). v < 2 ^ x) e (below_digits v v (le_refl v)), pow-suc 2 l) in
        let m : suc l - 1 ≡ l = omega arith in
        true≢false (sym (ap (λ (x : ℕ). bit_of (v / 2 ^ x % 2)) m ∙ ap (λ (x : ℕ). bit_of (x % 2)) (div-eq_of_lt-le (2 ^ l) {m = v} a b)) ∙ z)

-- the highest bit bounds the number from both sides
pub top_span : (v : ℕ) → v ≢ 0 → (2 ^ top v ≤ v) × (v < 2 ^ suc (top v))
unfolding top
top_span v n = go (digits_of v v) refl
  where
    go : (d : ℕ) → digits_of v v ≡ d → (2 ^ (d - 1) ≤ v) × (v < 2 ^ suc (d - 1))
    go zero e = let b : v < 2 ^ 0 = subst (λ (x : ℕ). v < 2 ^ x) e (below_digits v v (le_refl v)) in absurd (n (omega arith))
    go (suc l) e =
        let m : suc l - 1 ≡ l = omega arith in
        subst (λ (x : ℕ). (2 ^ x ≤ v) × (v < 2 ^ suc x)) (sym m)
        (from_digits v v (le_refl v) l e, subst (λ (x : ℕ). v < 2 ^ x) e (below_digits v v (le_refl v)))

-- the digit that bounds a number from both sides is the highest
pub top_is : (b j : ℕ) → 2 ^ j ≤ b → b < 2 ^ suc j → top b ≡ j
top_is b j l h = go (dec_lt (top b) j) (dec_lt j (top b))
  where
    bounds : (2 ^ top b ≤ b) × (b < 2 ^ suc (top b))
    bounds = top_span b (λ e. let p : 0 < 2 ^ j = pow_pos j in omega arith)

    go : Dec (top b < j) → Dec (j < top b) → top b ≡ j
    go (yes p) q = let r : 2 ^ suc (top b) ≤ 2 ^ j = pow_mono p in absurd (omega (arith, bounds.1))
    go (no p) (yes q) = let r : 2 ^ suc j ≤ 2 ^ top b = pow_mono q in absurd (omega (arith, bounds.0))
    go (no p) (no q) = omega arith

-- a number below 2 ^ w has no digit from w on
pub bit_below : (v w t : ℕ) → v < 2 ^ w → w ≤ t → bit v t ≡ false
unfolding bit
bit_below v w t h l =
    let p : 2 ^ w ≤ 2 ^ t = pow_mono l in
    let q : v < 2 ^ t = omega arith in
    ap (λ (x : ℕ). bit_of (x % 2)) (div-eq_of_lt q)
