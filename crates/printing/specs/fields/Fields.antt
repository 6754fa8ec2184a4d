-- The fields of a line.
--   field_text n       == a comma and the number n
--   sizes_text shape k == the kind and the four counts of a problem or formula
-- Document 01: "as `poly,2,2,0,3,right,-,4`". Assumes nothing.
use Rattle.std.specs.Prelude.{ℕ, List, ◌∷◌, ◌++◌}
use Rattle.kinds.specs.declared.Shape.{Shape}
use Rattle.kinds.specs.Kinds.{name_of}
use Rattle.text.specs.Line.{comma}
use Rattle.printing.specs.Print.{number_text}

-- a comma and a number
abbrev pub field_text : ℕ → List ℕ
field_text n = comma ∷ number_text n

unfoldable pub sizes_text : Shape → ℕ → List ℕ
sizes_text shape k = name_of shape.kind ++ field_text shape.p ++ field_text shape.q ++ field_text shape.r ++ field_text k
