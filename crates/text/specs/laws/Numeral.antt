-- Numerals, as they are read from the left.
--   digits_step, digits_stop, digits_end   the next digit; a byte that is none; the end
--   bound, numeral_fits                            the value so far, and that it fits 64 bits
--   numeral_empty .. numeral_more          the cases of a numeral by its length and its first digit
-- Assumes nothing.
use Rattle.std.specs.Prelude.{ℕ, suc, ◌+◌, ◌*◌, ◌^◌, ◌<◌, ◌≤◌, ◌≡◌, List, ◌∷◌, true, false, length, get_or, drop, eqb, None, Some}
use Rattle.std.proofs.Common.{arith, add-one, pow-suc, mul-le-mul_right, suc-mul, drop-cons, lt-ltb, le-ltb, eq-eqb, ne_eqb}
use Rattle.std.proofs.Math.Nat.{pow-le-pow_right}
use Rattle.std.proofs.Math.Seq.{drop-length}
use Rattle.text.specs.Numeral.{digit, digits, numeral}

pub digits_cons : (base v b : ℕ) (s : List ℕ) → digit b < base → digits base v (b ∷ s) ≡ digits base (v * base + digit b) s
unfolding digits
digits_cons base v b s h = simp (lt-ltb (digit b) base h)

pub digits_not : (base v b : ℕ) (s : List ℕ) → base ≤ digit b → digits base v (b ∷ s) ≡ None
unfolding digits
digits_not base v b s h = simp (le-ltb (digit b) base h)

pub digits_step : (base v i : ℕ) (s : List ℕ) → i < length s → digit (get_or s i 0) < base → digits base v (drop i s) ≡ digits base (v * base + digit (get_or s i 0)) (drop (i + 1) s)
digits_step base v i s h d = rw (add-one, drop-cons s i 0 h) (digits_cons base v (get_or s i 0) (drop (suc i) s) d)

pub digits_stop : (base v i : ℕ) (s : List ℕ) → i < length s → base ≤ digit (get_or s i 0) → digits base v (drop i s) ≡ None
digits_stop base v i s h d = rw (drop-cons s i 0 h) (digits_not base v (get_or s i 0) (drop (suc i) s) d)

pub digits_end : (base v i : ℕ) (s : List ℕ) → i ≡ length s → digits base v (drop i s) ≡ Some v
unfolding digits
digits_end base v i s h = rw (h, drop-length s)

pub bound : (base v i d : ℕ) → v < base ^ i → d < base → v * base + d < base ^ (i + 1)
bound base v i d hv hd =
    rw (add-one, pow-suc)
    (omega (arith, mul-le-mul_right base hv, suc-mul v base))

pub numeral_fits : (base v i d most : ℕ) → v < base ^ i → d < base → i < most → base ^ most ≤ 2 ^ 64 → v * base + d < 2 ^ 64
numeral_fits base v i d most hv hd hi h =
    let more : base ^ (i + 1) ≤ base ^ most = pow-le-pow_right (omega arith) (omega arith) in
    omega (arith, bound base v i d hv hd)

-- the cases of a numeral
pub numeral_empty : (base most : ℕ) (s : List ℕ) → length s ≡ 0 → numeral base most s ≡ None
unfolding numeral
numeral_empty base most s h = simp (eq-eqb (length s) 0 h)

pub numeral_long : (base most : ℕ) (s : List ℕ) → most < length s → numeral base most s ≡ None
unfolding numeral
numeral_long base most s h = simp (ne_eqb (length s) 0 (omega arith), lt-ltb most (length s) h)

pub numeral_zero : (base most : ℕ) (s : List ℕ) → 1 < length s → length s ≤ most → eqb (get_or s 0 0) 48 ≡ true → numeral base most s ≡ None
unfolding numeral
numeral_zero base most s h m z = simp (ne_eqb (length s) 0 (omega arith), le-ltb most (length s) m, lt-ltb 1 (length s) h, z)

pub numeral_one : (base most : ℕ) (s : List ℕ) → (length s ≡ 0 → ⊥) → length s ≤ 1 → length s ≤ most → numeral base most s ≡ digits base 0 s
unfolding numeral
numeral_one base most s e h m = simp (ne_eqb (length s) 0 e, le-ltb most (length s) m, le-ltb 1 (length s) h)

pub numeral_more : (base most : ℕ) (s : List ℕ) → 1 < length s → length s ≤ most → eqb (get_or s 0 0) 48 ≡ false → numeral base most s ≡ digits base 0 s
unfolding numeral
numeral_more base most s h m z = simp (ne_eqb (length s) 0 (omega arith), le-ltb most (length s) m, lt-ltb 1 (length s) h, z)
