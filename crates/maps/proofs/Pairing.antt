-- The test of a matrix product by its parts, and the loop that makes a target form.
--   mat_as    the test, once its first two parts are known
--   Summing   the form has its coordinates below s
--   A turn of the loop: `form_set`, `form_unset` (forms, laws/Product)
-- Assumes nothing.
use mathlib.Core.Path.{◌≡◌}
use mathlib.Core.Bool.{Bool, ◌&&◌}
use Prim.Native.Nat.{ℕ, ◌*◌, ◌/◌, ◌%◌, ◌≤◌}
use lib.Dec.{eqb}
use Rattle.kinds.specs.declared.Kind.TheVariants as kind
use Rattle.kinds.specs.declared.Shape.{Shape}
use Rattle.forms.specs.products.Product.{form_of}
use Rattle.maps.specs.Target.{pair_for, pair}

pub mat_as : (p q r t i j : ℕ) {u v : Bool} → eqb (i / q) (t / r) ≡ u → eqb (i % q) (j / r) ≡ v
    → pair_for kind.Mat p q r t i j ≡ u && (v && eqb (j % r) (t % r))
unfolding pair_for
mat_as p q r t i j a b = rw (a, b)

-- the tests that make a target form
abbrev pub tests : Shape → (m t : ℕ) → ℕ → Bool
tests shape m t s = pair shape t (s / m) (s % m)

pub record Summing (shape : Shape) (n m t form s : ℕ) : Type 0 where
  pub least : s ≤ n * m
  pub made : form ≡ form_of s (tests shape m t)
