-- Buffers that hold a formula.
--   sizes_in shape     == n, m and the number of outputs of a map with these sizes (0 where they misfit)
--   formula_in ..      == the formula that the buffers hold: k products, and a row for each output
--   FormulaBuffers .. == the sizes fit, the buffers have room for k products and a row for each output, and k is at most 64
-- Assumes nothing.
use Rattle.std.specs.Prelude.{◌≡◌, List, ℕ, ◌≤◌, length, take, Option, None, Some}
use Rattle.kinds.specs.Limits.{most_products}
use Rattle.kinds.specs.Sizes.{sizes}
use Rattle.kinds.specs.declared.Shape.{Shape}
use Rattle.formula_check.specs.Formula.{Admitted, formula_of}

abbrev pub sizes_or : Option (ℕ × ℕ × ℕ) → ℕ × ℕ × ℕ
sizes_or None = (0, 0, 0)
sizes_or (Some z) = z

unfoldable pub sizes_in : Shape → ℕ × ℕ × ℕ
sizes_in shape = sizes_or (sizes shape)

abbrev pub formula_in : Shape → ℕ → (a b rows : List ℕ) → Admitted
formula_in shape k a b rows =
    let z = sizes_in shape in
    formula_of shape z.0 z.1 (take k a) (take k b) (take z.2 rows)

pub record FormulaBuffers (shape : Shape) (k : ℕ) (a b rows : List ℕ) : Type 0 where
  pub n : ℕ
  pub m : ℕ
  pub u : ℕ
  pub sized : sizes shape ≡ Some (n, m, u)
  pub firsts : k ≤ length a
  pub seconds : k ≤ length b
  pub outputs : u ≤ length rows
  pub few : k ≤ most_products
