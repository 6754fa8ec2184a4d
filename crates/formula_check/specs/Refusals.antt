-- refusal_of w z k == the refusal of a formula with k products whose lists have the right lengths, 6 to 8, or 0: w, whether a mask or row is too wide; z, whether a
--                   factor is zero
-- It is that of `passed`: `passed_not`, `passed_is` (laws/Admission). Assumes nothing.
use Rattle.std.specs.Prelude.{Bool, cond, ℕ, ltb}
use Rattle.kinds.specs.Limits.{most_products}

abbrev pub refusal_of : Bool → Bool → ℕ → ℕ
refusal_of w z k = cond w 6 (cond z 7 (cond (ltb most_products k) 8 0))
