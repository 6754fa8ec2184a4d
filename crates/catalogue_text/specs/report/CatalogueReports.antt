-- The text that the Catalogue prints.
--   entries_text ..         == the lines of the entries (`record_lines`, record_lines)
--   counts_text ..          == the first two lines
--   catalogue_text ..       == what the Catalogue prints
-- Document 01: "For `poly,2,3,0,5` under its name line it prints in whole: .."; "`ell` is ℓ; `entry` counts from 0". Assumes nothing.
use Rattle.std.specs.Prelude.{ℕ, ◌-◌, List, [], ◌∷◌, ◌++◌}
use Rattle.kinds.specs.declared.Shape.{Shape}
use Rattle.text.specs.Line.{LF}
use Rattle.printing.specs.fields.Fields.{field_text, sizes_text}
use Rattle.printing.specs.record_lines.RecordLines.{entry_text, record_lines}

abbrev pub entries_text : (d k i n : ℕ) → List ℕ → List ℕ
entries_text d k i n listing = record_lines entry_text d k i n listing

-- `kind,p,q,r,k,ell,found,shown`, `entry,extension,basis`
abbrev pub catalogue_names : List ℕ
catalogue_names =
    107 ∷ 105 ∷ 110 ∷ 100 ∷ 44 ∷ 112 ∷ 44 ∷ 113 ∷ 44 ∷ 114 ∷ 44 ∷ 107 ∷ 44 ∷ 101 ∷ 108 ∷ 108 ∷ 44 ∷ 102 ∷ 111 ∷ 117 ∷ 110 ∷ 100 ∷ 44 ∷ 115 ∷ 104 ∷ 111 ∷ 119 ∷ 110 ∷ LF ∷ []

abbrev pub entry_names : List ℕ
entry_names =
    101 ∷ 110 ∷ 116 ∷ 114 ∷ 121 ∷ 44 ∷ 101 ∷ 120 ∷ 116 ∷ 101 ∷ 110 ∷ 115 ∷ 105 ∷ 111 ∷ 110 ∷ 44 ∷ 98 ∷ 97 ∷ 115 ∷ 105 ∷ 115 ∷ LF ∷ []

-- the first two lines of a Catalogue, which Formulae prints too
unfoldable pub counts_text : Shape → (k ell found shown : ℕ) → List ℕ
counts_text shape k ell found shown = catalogue_names ++ sizes_text shape k ++ field_text ell ++ field_text found ++ field_text shown ++ (LF ∷ [])

unfoldable pub catalogue_text : Shape → (k ell found shown : ℕ) → List ℕ → List ℕ
catalogue_text shape k ell found shown listing = counts_text shape k ell found shown ++ entry_names ++ entries_text (k - ell) k 0 shown listing
