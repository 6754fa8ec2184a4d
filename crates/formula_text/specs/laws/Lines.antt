-- The lines of products and of rows: their lengths, and how they follow one another.
--   count_put, product_put, row_put   a field, a product's line and a row's, from their pieces
--   products_most, rows_most          at most 34 bytes a product and 17 a row
--   products_front, rows-front        lines in front of a text
--   products_at, rows_at              the lines from the i-th on: that line and those after it
-- Assumes nothing.
use Rattle.std.specs.Prelude.{ℕ, suc, ◌+◌, ◌*◌, ◌<◌, ◌≤◌, ◌≡◌, refl, List, [], ◌∷◌, ◌++◌, length, get_or, drop, set}
use Rattle.std.proofs.Common.{sym, ap, ◌∙◌, subst, append_assoc, arith, add-one, length-append, drop-cons}
use Rattle.text.specs.Line.{LF, comma}
use Rattle.printing.specs.Print.{count_text, mask_text}
use Rattle.printing.specs.laws.Print.{printed_fits}
use Rattle.printing.specs.fields.Piece.{Piece}
use Rattle.printing.specs.fields.laws.Pieces.{Put, piece, piece_then}
use Rattle.printing.specs.record_lines.laws.Lines.{byte_then}
use Rattle.formula_text.specs.BodyText.{products_text, rows_text}

mask_piece : (x at e : ℕ) (d d₁ : List ℕ) → Put d at (mask_text x) d₁ e → Piece d at (mask_text x) 16 d₁ e
mask_piece x at e d d₁ p = piece d at (mask_text x) 16 d₁ e p (printed_fits 16 16 x)

pub end_piece : (at e : ℕ) (d d₁ : List ℕ) → Put d at (LF ∷ []) d₁ e → Piece d at (LF ∷ []) 1 d₁ e
end_piece at e d d₁ p = piece d at (LF ∷ []) 1 d₁ e p (omega arith)

pub count_put : (n at e : ℕ) (d d₁ d₂ : List ℕ) → d₁ ≡ set d at comma → Put d₁ (at + 1) (count_text n) d₂ e → Piece d at (comma ∷ count_text n) 5 d₂ e
count_put n at e d d₁ d₂ h p = byte_then comma at e 4 d d₁ d₂ (count_text n) h (piece d₁ (at + 1) (count_text n) 4 d₂ e p (printed_fits 10 4 n))

pub product_put : (x y at a b e : ℕ) (d d₁ d₂ d₃ d₄ : List ℕ) → Put d at (mask_text x) d₁ a → d₂ ≡ set d₁ a comma → Put d₂ (a + 1) (mask_text y) d₃ b
    → Put d₃ b (LF ∷ []) d₄ e → Piece d at (products_text (x ∷ []) (y ∷ []) []) 34 d₄ e
unfolding products_text
product_put x y at a b e d d₁ d₂ d₃ d₄ p h q l =
    piece_then (mask_piece x at a d d₁ p)
    (byte_then comma a e 17 d₁ d₂ d₄ (mask_text y ++ (LF ∷ [])) h (piece_then (mask_piece y (a + 1) b d₂ d₃ q) (end_piece b e d₃ d₄ l)))

pub row_put : (z at a e : ℕ) (d d₁ d₂ : List ℕ) → Put d at (mask_text z) d₁ a → Put d₁ a (LF ∷ []) d₂ e → Piece d at (rows_text (z ∷ []) []) 17 d₂ e
unfolding rows_text
row_put z at a e d d₁ d₂ p l = piece_then (mask_piece z at a d d₁ p) (end_piece a e d₁ d₂ l)

-- ---- lines one after the other
products_cons : (x y : ℕ) (xs ys t : List ℕ) → products_text (x ∷ xs) (y ∷ ys) t ≡ products_text (x ∷ []) (y ∷ []) [] ++ products_text xs ys t
unfolding products_text
products_cons x y xs ys t = simp append_assoc

rows_cons : (z : ℕ) (zs t : List ℕ) → rows_text (z ∷ zs) t ≡ rows_text (z ∷ []) [] ++ rows_text zs t
unfolding rows_text
rows_cons z zs t = simp append_assoc

pub products_front : (xs ys t : List ℕ) → products_text xs ys t ≡ products_text xs ys [] ++ t
unfolding products_text
products_front [] [] t = refl
products_front [] (y ∷ ys) t = refl
products_front (x ∷ xs) [] t = refl
products_front (x ∷ xs) (y ∷ ys) t =
    products_cons x y xs ys t ∙ ap (λ (u : List ℕ). products_text (x ∷ []) (y ∷ []) [] ++ u) (products_front xs ys t)
    ∙ sym (append_assoc (products_text (x ∷ []) (y ∷ []) []) (products_text xs ys []) t) ∙ ap (λ (u : List ℕ). u ++ t) (sym (products_cons x y xs ys []))

pub products_at : (xs ys : List ℕ) (i : ℕ) → i < length xs → i < length ys
    → products_text (drop i xs) (drop i ys) []
    ≡ products_text (get_or xs i 0 ∷ []) (get_or ys i 0 ∷ []) [] ++ products_text (drop (i + 1) xs) (drop (i + 1) ys) []
products_at xs ys i h k =
    rw (drop-cons xs i 0 h, drop-cons ys i 0 k, add-one i) (products_cons (get_or xs i 0) (get_or ys i 0) (drop (suc i) xs) (drop (suc i) ys) [])

pub rows_at : (zs : List ℕ) (i : ℕ) → i < length zs → rows_text (drop i zs) [] ≡ rows_text (get_or zs i 0 ∷ []) [] ++ rows_text (drop (i + 1) zs) []
rows_at zs i h = rw (drop-cons zs i 0 h, add-one i) (rows_cons (get_or zs i 0) (drop (suc i) zs) [])

-- ---- lengths
product_most : (x y : ℕ) → length (products_text (x ∷ []) (y ∷ []) []) ≤ 34
unfolding products_text
product_most x y =
    omega (
      arith,
      printed_fits 16 16 x,
      printed_fits 16 16 y,
      length-append (mask_text x) (comma ∷ (mask_text y ++ (LF ∷ []))),
      length-append (mask_text y) (LF ∷ []),
    )

pub products_most : (xs ys : List ℕ) → length (products_text xs ys []) ≤ 34 * length xs
unfolding products_text
products_most [] [] = omega arith
products_most [] (y ∷ ys) = omega arith
products_most (x ∷ xs) [] = omega arith
products_most (x ∷ xs) (y ∷ ys) =
    subst (λ (u : List ℕ). length u ≤ 34 * length (x ∷ xs)) (sym (products_cons x y xs ys []))
    (omega (arith, products_most xs ys, product_most x y, length-append (products_text (x ∷ []) (y ∷ []) []) (products_text xs ys [])))

row_most : (z : ℕ) → length (rows_text (z ∷ []) []) ≤ 17
unfolding rows_text
row_most z = omega (arith, printed_fits 16 16 z, length-append (mask_text z) (LF ∷ []))

pub rows_most : (zs : List ℕ) → length (rows_text zs []) ≤ 17 * length zs
unfolding rows_text
rows_most [] = omega arith
rows_most (z ∷ zs) =
    subst (λ (u : List ℕ). length u ≤ 17 * length (z ∷ zs)) (sym (rows_cons z zs []))
    (omega (arith, rows_most zs, row_most z, length-append (rows_text (z ∷ []) []) (rows_text zs [])))
