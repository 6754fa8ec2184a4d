-- The loops over products and over rows.
--   products_from xs ys i, rows_from zs i           == the lines from number i on
--   products_next, products_place, products_end   one product more, where the next one goes, and after the last
--   rows_next, rows_place, rows_end               the same of rows
-- Assumes nothing.
use Rattle.std.specs.Prelude.{ℕ, ◌+◌, ◌*◌, ◌<◌, ◌≤◌, ◌≡◌, get_or, drop}
use Rattle.std.proofs.Common.{ap, ap₂, ◌∙◌, subst, arith}
use mathlib.Core.List.{List, [], ◌∷◌}
use Rattle.std.proofs.Math.ListN.{length}
use Rattle.std.proofs.Math.Seq.{drop-length}
use Rattle.printing.specs.fields.Piece.{Piece}
use Rattle.formula_text.specs.BodyText.{products_text, rows_text}
use Rattle.formula_text.specs.laws.Lines.{products_at, products_most, rows_at, rows_most}
use Rattle.formula_text.specs.laws.Rest.{Rest, rest_next, rest_end}

abbrev pub products_from : (xs ys : List ℕ) → ℕ → List ℕ
products_from xs ys i = products_text (drop i xs) (drop i ys) []

abbrev pub rows_from : List ℕ → ℕ → List ℕ
rows_from zs i = rows_text (drop i zs) []

all_dropped : (xs : List ℕ) (i : ℕ) → i ≡ length xs → drop i xs ≡ []
all_dropped xs i h = ap (λ (n : ℕ). drop n xs) h ∙ drop-length xs

module _ (xs ys o : List ℕ) (at : ℕ) (paired : length xs ≡ length ys) where
  pub products_next : (out out₁ : List ℕ) (e f i : ℕ) → i < length xs → Rest o at (products_text xs ys []) out e (products_from xs ys i)
      → Piece out e (products_text (get_or xs i 0 ∷ []) (get_or ys i 0 ∷ []) []) 34 out₁ f → Rest o at (products_text xs ys []) out₁ f (products_from xs ys (i + 1))
  products_next out out₁ e f i h R P = rest_next (subst (Rest o at (products_text xs ys []) out e) (products_at xs ys i h (omega arith)) R) P

  pub products_place : (out : List ℕ) (e i : ℕ) → Rest o at (products_text xs ys []) out e (products_from xs ys i) → e ≤ at + 34 * length xs
  products_place out e i R = omega (arith, R.after, products_most xs ys)

  pub products_end : (out : List ℕ) (e i : ℕ) → i ≡ length xs → Rest o at (products_text xs ys []) out e (products_from xs ys i)
      → Piece o at (products_text xs ys []) (34 * length xs) out e
  unfolding products_text
  products_end out e i h R =
      rest_end (34 * length xs)
      (subst (Rest o at (products_text xs ys []) out e)
      (ap₂ (λ (a b : List ℕ). products_text a b []) (all_dropped xs i h) (all_dropped ys i (h ∙ paired))) R) (products_most xs ys)

module _ (zs o : List ℕ) (at : ℕ) where
  pub rows_next : (out out₁ : List ℕ) (e f i : ℕ) → i < length zs → Rest o at (rows_text zs []) out e (rows_from zs i)
      → Piece out e (rows_text (get_or zs i 0 ∷ []) []) 17 out₁ f → Rest o at (rows_text zs []) out₁ f (rows_from zs (i + 1))
  rows_next out out₁ e f i h R P = rest_next (subst (Rest o at (rows_text zs []) out e) (rows_at zs i h) R) P

  pub rows_place : (out : List ℕ) (e i : ℕ) → Rest o at (rows_text zs []) out e (rows_from zs i) → e ≤ at + 17 * length zs
  rows_place out e i R = omega (arith, R.after, rows_most zs)

  pub rows_end : (out : List ℕ) (e i : ℕ) → i ≡ length zs → Rest o at (rows_text zs []) out e (rows_from zs i)
      → Piece o at (rows_text zs []) (17 * length zs) out e
  unfolding rows_text
  rows_end out e i h R =
      rest_end (17 * length zs) (subst (Rest o at (rows_text zs []) out e) (ap (λ (a : List ℕ). rows_text a []) (all_dropped zs i h)) R) (rows_most zs)
