-- The text of a formula's lines under the first two.
--   products_text xs ys t == a line for each product, in front of the text t
--   rows_text zs t        == a line for each row, in front of t
--   body_text xs ys zs    == `a,b`, the products, `row`, the rows
-- Assumes nothing.
use Rattle.std.specs.Prelude.{ℕ, List, [], ◌∷◌, ◌++◌}
use Rattle.text.specs.Line.{LF, comma}
use Rattle.printing.specs.Print.{mask_text}
use Rattle.formula_files.specs.lines.Formula.{product_names, row_name}

unfoldable pub products_text : List ℕ → List ℕ → List ℕ → List ℕ
products_text [] [] t = t
products_text [] (y ∷ ys) t = t
products_text (x ∷ xs) [] t = t
products_text (x ∷ xs) (y ∷ ys) t = mask_text x ++ (comma ∷ (mask_text y ++ (LF ∷ products_text xs ys t)))

unfoldable pub rows_text : List ℕ → List ℕ → List ℕ
rows_text [] t = t
rows_text (z ∷ zs) t = mask_text z ++ (LF ∷ rows_text zs t)

unfoldable pub body_text : List ℕ → List ℕ → List ℕ → List ℕ
body_text xs ys zs = product_names ++ (LF ∷ products_text xs ys (row_name ++ (LF ∷ rows_text zs [])))
