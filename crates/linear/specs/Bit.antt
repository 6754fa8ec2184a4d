-- The binary digits of a number.
--   bit v i == digit i of v, counted from 0 at the lowest
--   xor_b    == the sum of two bits
--   top v   == the number of v's highest set digit (0 for v = 0)
-- Document 01: "A bilinear form .. is a word of n × m bits: bit i × m + j .., counted from 0 at the lowest bit."
-- Laws: laws/Bit. Assumes nothing.
use Rattle.std.specs.Prelude.{Bool, true, false, not, ℕ, zero, suc, ◌-◌, ◌/◌, ◌%◌, ◌^◌}

abbrev pub bit_of : ℕ → Bool
bit_of zero = false
bit_of (suc n) = true

unfoldable pub bit : ℕ → ℕ → Bool
bit v i = bit_of (v / 2 ^ i % 2)

-- how many digits n has, counted up to k
unfoldable pub digits_of : ℕ → ℕ → ℕ
digits_of zero n = zero
digits_of (suc k) zero = zero
digits_of (suc k) (suc n) = suc (digits_of k (suc n / 2))

unfoldable pub top : ℕ → ℕ
top n = digits_of n n - 1

-- sums over two elements
abbrev pub xor_b : Bool → Bool → Bool
xor_b true b = not b
xor_b false b = b
