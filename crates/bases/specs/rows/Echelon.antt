-- The products of a formula reduced once, so that each of its rows is found in one pass.
--   taken B M v              == the masks M of those rows of B that reduction adds to v, summed
--   Tracking xs rows masks i == the first i rows are echelon, the first i of xs are in their span, and the mask of each names those of xs that sum to it
--   Tracks xs e              == so for all of xs
-- Laws (proofs/laws/of_rows/Echelon):
--   rest_inside, rest_test   nothing is left of a form exactly if it is a sum of products
--   rest_row                 then what was taken is its row, if the products are independent
-- Assumes nothing.
use Rattle.std.specs.Prelude.{◌≡◌, ℕ, ◌^◌, ◌<◌, ◌≤◌, ltb, length, get_or, take}
use mathlib.Core.List.{List, [], ◌∷◌, Memᴰ}
use Rattle.std.specs.Int.Bits.{bit_xor}
use Rattle.linear.specs.Basis as basis
use Rattle.linear.specs.Span.{Span}
use Rattle.linear.specs.Word.{word, scale_w}
use Rattle.forms.specs.Row.{row_form}
use Rattle.bases.specs.Basis.{most_rows}
use Rattle.bases.specs.declared.rows.Echelon.{Echelon}

-- a row is added exactly if that makes v smaller: the row 0 never is
unfoldable pub taken : List ℕ → List ℕ → ℕ → ℕ
taken [] M v = 0
taken (b ∷ B) [] v = 0
taken (b ∷ B) (m ∷ M) v = bit_xor (scale_w (ltb (bit_xor v b) v) m) (taken B M (basis.clear word b v))

pub record Tracking (xs rows masks : List ℕ) (i : ℕ) : Type 0 where
  pub whole : length rows ≡ most_rows
  pub masked : length masks ≡ most_rows
  pub room : i ≤ most_rows
  pub echelon : basis.Echelon word (take i rows)
  pub holds : (x : ℕ) → Memᴰ x (take i xs) → Span word (take i rows) x
  pub sums : (j : ℕ) → j < i → row_form xs (get_or masks j 0) 0 ≡ get_or rows j 0
  pub below : (j : ℕ) → j < i → get_or masks j 0 < 2 ^ length xs

abbrev pub Tracks : List ℕ → Echelon → Type 0
Tracks xs e = Tracking xs e.rows e.masks (length xs)
