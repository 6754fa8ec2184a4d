-- The text of a formula from its pieces.
--   shape_put, head_put   the second line, and the first two
--   formula_put           the whole
--   text_most             its length
-- Assumes nothing.
use Rattle.std.specs.Prelude.{ℕ, ◌+◌, ◌*◌, ◌≤◌, ◌≡◌, refl, List, [], ◌∷◌, ◌++◌, length}
use Rattle.std.proofs.Common.{sym, ap, ◌∙◌, subst, append_assoc, arith}
use Rattle.std.proofs.lemmas.List.Edits.{sets}
use Rattle.kinds.specs.declared.Shape.{Shape}
use Rattle.kinds.specs.Kinds.{name_of, longest_name, name_short}
use Rattle.kinds.specs.Limits.{most_products, most_targets}
use Rattle.text.specs.Line.{LF, comma}
use Rattle.text.specs.heads.Head.{head_names}
use Rattle.printing.specs.Print.{count_text}
use Rattle.printing.specs.laws.Print.{printed_fits}
use Rattle.printing.specs.fields.Piece.{Piece}
use Rattle.printing.specs.fields.laws.Pieces.{Put, piece, piece_then}
use Rattle.printing.specs.record_lines.laws.Lines.{weaker}
use Rattle.printing.specs.refusals.Pages.{formula_page}
use Rattle.formula_files.specs.lines.Formula.{product_names, row_name}
use Rattle.formula_text.specs.HeadText.{fields_text, shape_text, file_head}
use Rattle.formula_text.specs.BodyText.{products_text, rows_text, body_text}
use Rattle.formula_text.specs.FileText.{formula_text}
use Rattle.formula_text.specs.laws.Lines.{end_piece, products_front, products_most, rows_most}

shape_text_law : (shape : Shape) (k : ℕ)
    → (((name_of shape.kind ++ (comma ∷ count_text shape.p)) ++ (comma ∷ count_text shape.q)) ++ (comma ∷ count_text shape.r)) ++ (comma ∷ count_text k)
    ≡ shape_text shape k
unfolding fields_text
shape_text_law shape k = simp append_assoc

pub shape_put : (shape : Shape) (k at a b c d e : ℕ) (o o₁ o₂ o₃ o₄ o₅ : List ℕ) → Put o at (name_of shape.kind) o₁ a
    → Piece o₁ a (comma ∷ count_text shape.p) 5 o₂ b → Piece o₂ b (comma ∷ count_text shape.q) 5 o₃ c
    → Piece o₃ c (comma ∷ count_text shape.r) 5 o₄ d → Piece o₄ d (comma ∷ count_text k) 5 o₅ e → Piece o at (shape_text shape k) 25 o₅ e
shape_put shape k at a b c d e o o₁ o₂ o₃ o₄ o₅ h hp hq hr hk =
    let name = piece o at (name_of shape.kind) longest_name o₁ a h (name_short shape.kind) in
    subst (λ (t : List ℕ). Piece o at t 25 o₅ e) (shape_text_law shape k) (piece_then (piece_then (piece_then (piece_then name hp) hq) hr) hk)

-- the first two lines in front of a text
head_front : (shape : Shape) (k : ℕ) (t : List ℕ) → file_head shape k t ≡ file_head shape k [] ++ t
unfolding file_head
head_front shape k t = ap (λ (u : List ℕ). head_names ++ (LF ∷ u)) (sym (append_assoc (shape_text shape k) (LF ∷ []) t))

pub head_put : (shape : Shape) (k at a b e : ℕ) (o o₁ o₂ o₃ : List ℕ) → Put o at (head_names ++ (LF ∷ [])) o₁ a → Piece o₁ a (shape_text shape k) 25 o₂ b
    → Put o₂ b (LF ∷ []) o₃ e → Piece o at (file_head shape k []) 39 o₃ e
unfolding file_head
head_put shape k at a b e o o₁ o₂ o₃ h hs hl =
    piece_then (piece o at (head_names ++ (LF ∷ [])) 13 o₁ a h (omega arith)) (piece_then hs (end_piece b e o₂ o₃ hl))

formula_text_law : (shape : Shape) (xs ys zs : List ℕ)
    → file_head shape (length xs) [] ++ ((product_names ++ (LF ∷ [])) ++ (products_text xs ys [] ++ ((row_name ++ (LF ∷ [])) ++ rows_text zs [])))
    ≡ formula_text shape xs ys zs
unfolding body_text
formula_text_law shape xs ys zs =
    ap (λ (u : List ℕ). file_head shape (length xs) [] ++ (product_names ++ (LF ∷ u))) (sym (products_front xs ys (row_name ++ (LF ∷ rows_text zs []))))
    ∙ sym (head_front shape (length xs) (body_text xs ys zs))

pub formula_put : (shape : Shape) (xs ys zs : List ℕ) (at a b c d e : ℕ) (o o₁ o₂ o₃ o₄ o₅ : List ℕ) → length xs ≤ most_products → length zs ≤ most_targets
    → Piece o at (file_head shape (length xs) []) 39 o₁ a → Put o₁ a (product_names ++ (LF ∷ [])) o₂ b
    → Piece o₂ b (products_text xs ys []) (34 * length xs) o₃ c → Put o₃ c (row_name ++ (LF ∷ [])) o₄ d
    → Piece o₄ d (rows_text zs []) (17 * length zs) o₅ e → Piece o at (formula_text shape xs ys zs) formula_page o₅ e
formula_put shape xs ys zs at a b c d e o o₁ o₂ o₃ o₄ o₅ few outputs P h Q l R =
    subst (λ (t : List ℕ). Piece o at t formula_page o₅ e) (formula_text_law shape xs ys zs)
    (weaker o _ o₅ at e _ formula_page (omega arith)
    (piece_then P
    (piece_then (piece o₁ a (product_names ++ (LF ∷ [])) 4 o₂ b h (omega arith))
    (piece_then Q (piece_then (piece o₃ c (row_name ++ (LF ∷ [])) 4 o₄ d l (omega arith)) R)))))

-- ---- lengths: those of the pieces, on any buffer
full : (o : List ℕ) (at : ℕ) (t : List ℕ) (m : ℕ) → length t ≤ m → Piece o at t m (sets o at t) (at + length t)
full o at t m h = record { after = refl; holds = refl; most = h }

count_most : (n : ℕ) → length (comma ∷ count_text n) ≤ 5
count_most n = omega (arith, printed_fits 10 4 n)

shape_most : (shape : Shape) (k : ℕ) → length (shape_text shape k) ≤ 25
shape_most shape k =
    (shape_put shape k 0 _ _ _ _ _ [] _ _ _ _ _ (refl, refl) (full _ _ (comma ∷ count_text shape.p) 5 (count_most shape.p))
    (full _ _ (comma ∷ count_text shape.q) 5 (count_most shape.q)) (full _ _ (comma ∷ count_text shape.r) 5 (count_most shape.r))
    (full _ _ (comma ∷ count_text k) 5 (count_most k))).most

head_most : (shape : Shape) (k : ℕ) → length (file_head shape k []) ≤ 39
head_most shape k = (head_put shape k 0 _ _ _ [] _ _ _ (refl, refl) (full _ _ (shape_text shape k) 25 (shape_most shape k)) (refl, refl)).most

pub text_most : (shape : Shape) (xs ys zs : List ℕ) → length xs ≤ most_products → length zs ≤ most_targets → length (formula_text shape xs ys zs) ≤ formula_page
text_most shape xs ys zs few outputs =
    (formula_put shape xs ys zs 0 _ _ _ _ _ [] _ _ _ _ _ few outputs (full _ _ (file_head shape (length xs) []) 39 (head_most shape (length xs))) (refl, refl)
    (full _ _ (products_text xs ys []) (34 * length xs) (products_most xs ys)) (refl, refl) (full _ _ (rows_text zs []) (17 * length zs) (rows_most zs))).most
