-- Numbers, printed.
--   digit_byte d                     == the byte of the digit d
--   numeral_text base f n            == the digits of n to the base, at most f of them, the last one last
--   count_text, mask_text, number_text == a count, a mask, any 64-bit number in decimal
-- Assumes nothing.
use Rattle.std.specs.Prelude.{ℕ, zero, suc, ◌+◌, ◌/◌, ◌%◌, List, [], ◌∷◌, ◌++◌, cond, ltb}

abbrev pub digit_byte : ℕ → ℕ
digit_byte d = cond (ltb d 10) (48 + d) (87 + d)

unfoldable pub numeral_text : ℕ → ℕ → ℕ → List ℕ
numeral_text base zero n = []
numeral_text base (suc f) n = cond (ltb n base) (digit_byte n ∷ []) (numeral_text base f (n / base) ++ (digit_byte (n % base) ∷ []))

abbrev pub count_text : ℕ → List ℕ
count_text n = numeral_text 10 4 n

abbrev pub mask_text : ℕ → List ℕ
mask_text n = numeral_text 16 16 n

abbrev pub number_text : ℕ → List ℕ
number_text n = numeral_text 10 20 n
