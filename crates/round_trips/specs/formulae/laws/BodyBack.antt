-- The text of a formula's lines is read back.
--   body_back   the lines under the first two
-- Assumes nothing.
use Rattle.std.specs.Prelude.{ℕ, ◌^◌, ◌<◌, ◌≡◌, refl, List, [], ◌∷◌, ◌++◌, length, Some}
use Rattle.std.proofs.Common.{arith}
use Rattle.words.specs.laws.Masks.{AllBelow}
use Rattle.text.specs.Line.{LF, comma}
use Rattle.printing.specs.Print.{mask_text}
use Rattle.round_trips.specs.formulae.laws.HeadBack.{mask_back, field_back, name_back}
use Rattle.formula_files.specs.lines.Formula.{product_line, products, rows, body, ended, product_names, row_name}
use Rattle.formula_text.specs.BodyText.{products_text, rows_text, body_text}
use Rattle.formula_files.specs.lines.laws.Loops.{product_is}

product_back : (x y : ℕ) (t : List ℕ) → x < 2 ^ 64 → y < 2 ^ 64 → product_line (mask_text x ++ (comma ∷ (mask_text y ++ (LF ∷ t)))) ≡ Some (x, y, t)
product_back x y t hx hy =
    product_is (mask_text x ++ (comma ∷ (mask_text y ++ (LF ∷ t)))) (mask_text y ++ (LF ∷ t)) t x y
    (field_back 16 16 comma x (mask_text y ++ (LF ∷ t)) (omega arith) (mask_back x hx))
    (field_back 16 16 LF y t (omega arith) (mask_back y hy))

products_back : (xs ys t : List ℕ) → length xs ≡ length ys → AllBelow (2 ^ 64) xs → AllBelow (2 ^ 64) ys → products (length xs) (products_text xs ys t) ≡ Some (xs, ys, t)
unfolding products products_text
products_back [] [] t e hx hy = refl
products_back [] (y ∷ ys) t e hx hy = absurd (omega arith)
products_back (x ∷ xs) [] t e hx hy = absurd (omega arith)
products_back (x ∷ xs) (y ∷ ys) t e hx hy =
    rw (product_back x y (products_text xs ys t) hx.0 hy.0, products_back xs ys t (omega arith) hx.1 hy.1)

rows_back : (zs t : List ℕ) → AllBelow (2 ^ 64) zs → rows (length zs) (rows_text zs t) ≡ Some (zs, t)
unfolding rows rows_text
rows_back [] t h = refl
rows_back (z ∷ zs) t h = rw (field_back 16 16 LF z (rows_text zs t) (omega arith) (mask_back z h.0), rows_back zs t h.1)

pub body_back : (xs ys zs : List ℕ) → length xs ≡ length ys → AllBelow (2 ^ 64) xs → AllBelow (2 ^ 64) ys → AllBelow (2 ^ 64) zs → body (length xs) (length zs) (body_text xs ys zs) ≡ Some (xs, ys, zs)
unfolding body body_text ended
body_back xs ys zs e hx hy hz =
    rw (
      name_back product_names (products_text xs ys (row_name ++ (LF ∷ rows_text zs []))) (omega arith),
      products_back xs ys (row_name ++ (LF ∷ rows_text zs [])) e hx hy,
      name_back row_name (rows_text zs []) (omega arith),
      rows_back zs [] hz,
    )
