-- Products as forms.
--   form_of w f          == the form whose coordinate t is f t below w, and 0 from w on
--   term m a b t        == the coefficient of the product of variables number t: of a_i b_j where t is i * m + j
--   product_form n m a b == the product of the sum of the a's in the mask a and the sum of the b's in the mask b, in n and m variables; of a form wider than 64
--                          the lowest 64 coordinates
-- Its coordinates: `product_coordinate` (laws/Product).
-- Assumes nothing.
use Rattle.std.specs.Prelude.{Bool, cond, ◌&&◌, ℕ, zero, suc, ◌+◌, ◌*◌, ◌/◌, ◌%◌, ◌^◌, min}
use Rattle.linear.specs.Bit.{bit}

unfoldable pub form_of : ℕ → (ℕ → Bool) → ℕ
form_of zero f = 0
form_of (suc w) f = let r = form_of w f in cond (f w) (2 ^ w + r) r

abbrev pub term : ℕ → ℕ → ℕ → ℕ → Bool
term m a b t = bit a (t / m) && bit b (t % m)

unfoldable pub product_form : ℕ → ℕ → ℕ → ℕ → ℕ
product_form n m a b = form_of (min (n * m) 64) (term m a b)
