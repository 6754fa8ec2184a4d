-- The texts that Rank prints: a number with its formula, `above` or `beyond`.
--   rank_head ..            == `kind,p,q,r,k,ell,rank`, the sizes and ℓ
--   rank_text ..            == what Rank prints with a number; then, under `products,rows`, its formula
--   far_rank_text ..         == what it prints with none
-- What Rank prints is decided (docs/DECISIONS.md). Assumes nothing.
use Rattle.std.specs.Prelude.{ℕ, Bool, true, false, List, [], ◌∷◌, ◌++◌, length}
use Rattle.kinds.specs.declared.Shape.{Shape}
use Rattle.text.specs.Line.{LF}
use Rattle.printing.specs.fields.Fields.{field_text, sizes_text}
use Rattle.printing.specs.record_lines.RecordLines.{lists_text}

abbrev pub rank_names : List ℕ
rank_names = 107 ∷ 105 ∷ 110 ∷ 100 ∷ 44 ∷ 112 ∷ 44 ∷ 113 ∷ 44 ∷ 114 ∷ 44 ∷ 107 ∷ 44 ∷ 101 ∷ 108 ∷ 108 ∷ 44 ∷ 114 ∷ 97 ∷ 110 ∷ 107 ∷ LF ∷ []

abbrev pub formula_names : List ℕ
formula_names = 112 ∷ 114 ∷ 111 ∷ 100 ∷ 117 ∷ 99 ∷ 116 ∷ 115 ∷ 44 ∷ 114 ∷ 111 ∷ 119 ∷ 115 ∷ LF ∷ []

-- `,above`, `,beyond`
abbrev pub far_text : Bool → List ℕ
far_text true = 44 ∷ 97 ∷ 98 ∷ 111 ∷ 118 ∷ 101 ∷ LF ∷ []
far_text false = 44 ∷ 98 ∷ 101 ∷ 121 ∷ 111 ∷ 110 ∷ 100 ∷ LF ∷ []

unfoldable pub rank_head : Shape → (k ell : ℕ) → List ℕ
rank_head shape k ell = rank_names ++ sizes_text shape k ++ field_text ell

-- a rank that is not found: above (true) or beyond
unfoldable pub far_rank_text : Shape → (k ell : ℕ) → Bool → List ℕ
far_rank_text shape k ell above = rank_head shape k ell ++ far_text above

-- "0 4 8,1 7 2"
unfoldable pub rank_text : Shape → (k ell : ℕ) → (products rows : List ℕ) → List ℕ
rank_text shape k ell products rows = rank_head shape k ell ++ field_text (length products) ++ (LF ∷ []) ++ formula_names ++ lists_text products rows
