-- Sums of forms that a mask names.
--   row_form fs row k == the sum of those forms of fs that the row names; the first is numbered k
-- Document 01: "for every target, the mask of those products that sum to it, bit 0 for the first". Assumes nothing.
use Rattle.std.specs.Prelude.{List, [], ◌∷◌, ℕ, suc}
use Rattle.std.specs.Int.Bits.{bit_xor}
use Rattle.linear.specs.Bit.{bit}
use Rattle.linear.specs.Word.{scale_w}

unfoldable pub row_form : List ℕ → ℕ → ℕ → ℕ
row_form [] row k = 0
row_form (f ∷ fs) row k = bit_xor (scale_w (bit row k) f) (row_form fs row (suc k))
