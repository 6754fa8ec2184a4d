-- Numerals, read. A byte string is a list of numbers below 256; `none` is 'misshapen'.
--   digit b             == what the byte b is worth as a digit; 16 where it is none
--   digits base v s     == the number whose digits are those of v, then those of s
--   numeral base most s == the number that s writes to the base, in at most `most` digits
--   count, mask         == the two that a file has
-- Document 01: "Counts are decimal, up to four digits; forms and masks are lowercase hexadecimal, up to sixteen digits. Neither has
-- leading zeros; zero is `0`." Assumes nothing.
use Rattle.std.specs.Prelude.{ℕ, ◌+◌, ◌-◌, ◌*◌, List, [], ◌∷◌, ◌&&◌, cond, length, get_or, ltb, leb, eqb, Option, None, Some}

-- `0` to `9` are 48 to 57, `a` to `f` are 97 to 102
abbrev pub digit : ℕ → ℕ
digit b = cond (leb 48 b && leb b 57) (b - 48) (cond (leb 97 b && leb b 102) (b - 87) 16)

unfoldable pub digits : ℕ → ℕ → List ℕ → Option ℕ
digits base v [] = Some v
digits base v (b ∷ s) = cond (ltb (digit b) base) (digits base (v * base + digit b) s) None

-- from one digit to `most`, and no `0` in front of another digit
unfoldable pub numeral : ℕ → ℕ → List ℕ → Option ℕ
numeral base most s =
    cond (eqb (length s) 0) None
    (cond (ltb most (length s)) None
    (cond (ltb 1 (length s) && eqb (get_or s 0 0) 48) None
    (digits base 0 s)))

abbrev pub count : List ℕ → Option ℕ
count s = numeral 10 4 s

abbrev pub mask : List ℕ → Option ℕ
mask s = numeral 16 16 s
