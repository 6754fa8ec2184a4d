-- The text of the first two lines.
--   fields_text p q r k == four counts with commas between them
--   shape_text shape k  == the second line
--   file_head shape k t == the first two lines, in front of the text t
-- Assumes nothing.
use Rattle.std.specs.Prelude.{ℕ, List, ◌∷◌, ◌++◌}
use Rattle.kinds.specs.declared.Shape.{Shape}
use Rattle.kinds.specs.Kinds.{name_of}
use Rattle.printing.specs.Print.{count_text}
use Rattle.text.specs.Line.{LF, comma}
use Rattle.text.specs.heads.Head.{head_names}

unfoldable pub fields_text : ℕ → ℕ → ℕ → ℕ → List ℕ
fields_text p q r k = count_text p ++ (comma ∷ (count_text q ++ (comma ∷ (count_text r ++ (comma ∷ count_text k)))))

abbrev pub shape_text : Shape → ℕ → List ℕ
shape_text shape k = name_of shape.kind ++ (comma ∷ fields_text shape.p shape.q shape.r k)

unfoldable pub file_head : Shape → ℕ → List ℕ → List ℕ
file_head shape k t = head_names ++ (LF ∷ (shape_text shape k ++ (LF ∷ t)))
