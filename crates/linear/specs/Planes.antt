-- The field of three elements, and its vectors as two planes of bits: the definitions that `Trit` makes a space of.
--   Three               == 0, 1 and 2; plus3, times3, neg3 modulo 3
--   trit nonzero two    == the element for a bit of each plane: 0 where the first is not set, else 2 or 1
--   Planes              == two numbers, the second's bits among the first's; coord3 v i == coordinate i
--   sum_nonzero, sum_twos == the planes of a sum, from those of its terms
-- Assumes nothing.
use Rattle.std.specs.Prelude.{◌≡◌, refl, Bool, true, false, ℕ}
use Rattle.std.specs.Int.Bits.{bit_xor, bit_and, bit_or}
use Rattle.linear.specs.Bit.{bit}

pub data Three : Type 0 where
  n0 n1 n2 : Three

abbrev pub plus3 : Three → Three → Three
plus3 n0 b = b
plus3 n1 n0 = n1
plus3 n1 n1 = n2
plus3 n1 n2 = n0
plus3 n2 n0 = n2
plus3 n2 n1 = n0
plus3 n2 n2 = n1

abbrev pub neg3 : Three → Three
neg3 n0 = n0
neg3 n1 = n2
neg3 n2 = n1

abbrev pub times3 : Three → Three → Three
times3 n0 b = n0
times3 n1 b = b
times3 n2 b = neg3 b

abbrev pub trit : Bool → Bool → Three
trit false t = n0
trit true false = n1
trit true true = n2

abbrev pub Planes : Type 0
Planes = (p : ℕ × ℕ) × (bit_and p.0 p.1 ≡ p.1)

abbrev pub coord3 : Planes → ℕ → Three
coord3 v i = trit (bit v.0.0 i) (bit v.0.1 i)

abbrev pub nul3 : Planes
nul3 = ((0, 0), refl)

-- a and c are the masks of the nonzero coordinates, b and d of the twos.
-- Nonzero: one term is, or both are and they agree. Two: the one nonzero term is, or both are 1.
unfoldable pub sum_nonzero : (a b c d : ℕ) → ℕ
sum_nonzero a b c d = bit_or (bit_xor a c) (bit_xor (bit_and a c) (bit_and (bit_and a c) (bit_xor b d)))

unfoldable pub sum_twos : (a b c d : ℕ) → ℕ
sum_twos a b c d = bit_or (bit_and (bit_xor a c) (bit_xor b d)) (bit_xor (bit_and a c) (bit_and (bit_and a c) (bit_or b d)))
