-- The formula that buffers hold.
--   sizes_in_law                      the sizes of a map that fit
--   in_is, in_products, in_fits   its parts, as they are lent to a call
-- Assumes nothing.
use Rattle.std.specs.Prelude.{◌≡◌, List, ℕ, length, take, Some}
use Rattle.std.proofs.Common.{sym, ap, ap₂, ◌∙◌, arith, length-take-le}
use Rattle.kinds.specs.declared.Shape.{Shape}
use Rattle.kinds.specs.Sizes.{sizes}
use Rattle.formula_check.specs.Formula.{formula_of}
use Rattle.formula_check.specs.Replies.{Fitting}
use Rattle.formula_check.specs.Buffers.{sizes_or, sizes_in, formula_in, FormulaBuffers}

pub sizes_in_law : (shape : Shape) (z : ℕ × ℕ × ℕ) → sizes shape ≡ Some z → sizes_in shape ≡ z
unfolding sizes_in
sizes_in_law shape z e = ap sizes_or e

-- ---- the formula in the buffers, whose parts are xs, ys and zs
module _ (shape : Shape) (k : ℕ) (a b rows : List ℕ) (B : FormulaBuffers shape k a b rows) (n m u : ℕ) (S : sizes shape ≡ Some (n, m, u))
    (xs ys zs : List ℕ) (X : xs ≡ take k a) (Y : ys ≡ take k b) (Z : zs ≡ take u rows) where
  -- it is that of the sizes that were found
  pub in_is : formula_in shape k a b rows ≡ formula_of shape n m xs ys zs
  in_is =
      ap (λ (z : ℕ × ℕ × ℕ). formula_of shape z.0 z.1 (take k a) (take k b) (take z.2 rows)) (sizes_in_law shape (n, m, u) S)
      ∙ ap₂ (λ (x y : List ℕ). formula_of shape n m x y (take u rows)) (sym X) (sym Y) ∙ ap (formula_of shape n m xs ys) (sym Z)

  pub in_products : length xs ≡ k
  in_products = ap length X ∙ length-take-le k a B.firsts

  -- and fits
  pub in_fits : Fitting shape n m xs ys zs
  in_fits =
      let y = ap length Y ∙ length-take-le k b B.seconds in
      let o : u ≡ B.u = ap (λ (z : ℕ × ℕ × ℕ). z.2) (sym (sizes_in_law shape (n, m, u) S) ∙ sizes_in_law shape (B.n, B.m, B.u) B.sized) in
      let w = ap length Z ∙ length-take-le u rows (omega (arith, o, B.outputs)) in
      record { sized = S ∙ ap (λ (t : ℕ). Some (n, m, t)) (sym w); paired = in_products ∙ sym y; few = omega (arith, in_products, B.few) }
