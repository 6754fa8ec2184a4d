-- The text of a formula that buffers hold, whose parts are xs, ys and zs.
--   held_asked   what printing it asks
--   held_whole   the page that it is printed on
-- Assumes nothing.
use Rattle.std.specs.Prelude.{◌≡◌, List, ℕ, ◌≤◌, length, take, Some}
use Rattle.std.proofs.Math.Path.{sym}
use Rattle.std.proofs.Common.{ap, ◌∙◌, arith}
use Rattle.kinds.specs.declared.Shape.{Shape}
use Rattle.kinds.specs.Sizes.{sizes}
use Rattle.kinds.specs.laws.Sizes.{sizes_bounds}
use Rattle.formula_check.specs.Buffers.{formula_in, FormulaBuffers}
use Rattle.formula_check.proofs.laws.Buffers.{in_is, in_fits}
use Rattle.printing.specs.fields.Piece.{Piece}
use Rattle.printing.specs.fields.laws.Pieces.{whole}
use Rattle.printing.specs.refusals.Pages.{formula_page}
use Rattle.formula_text.specs.FileText.{formula_text, file_text, FormulaAsked}

module _ (shape : Shape) (k : ℕ) (a b rows : List ℕ) (B : FormulaBuffers shape k a b rows) (n m u : ℕ) (S : sizes shape ≡ Some (n, m, u))
    (xs ys zs : List ℕ) (X : xs ≡ take k a) (Y : ys ≡ take k b) (Z : zs ≡ take u rows) where
  pub held_asked : FormulaAsked xs ys zs 0
  held_asked =
      let F = in_fits shape k a b rows B n m u S xs ys zs X Y Z in
      record { paired = F.paired; few = F.few; outputs = (sizes_bounds shape (n, m, length zs) F.sized).most_outputs; place = omega arith }

  pub held_whole : (d d₁ : List ℕ) (e : ℕ) → length d ≡ formula_page → Piece d 0 (formula_text shape xs ys zs) formula_page d₁ e
      → (take e d₁ ≡ file_text (formula_in shape k a b rows)) × (e ≤ formula_page)
  unfolding file_text
  held_whole d d₁ e l P = (
    whole (formula_text shape xs ys zs) d d₁ formula_page e P (omega arith) ∙ sym (ap file_text (in_is shape k a b rows B n m u S xs ys zs X Y Z)),
    (let h = P.after in let m = P.most in omega arith),
  )
