-- `turning::reversed` meets its contract: after i turns the form has its bits below i. Assumes nothing.
use mathlib.Core.Path.{◌≡◌}
use mathlib.Core.Bool.{Bool}
use Prim.Native.Nat.{ℕ, ◌-◌}
use Rattle.linear.specs.Bit.{bit}
use Rattle.forms.specs.products.Product.{form_of}
use Rattle.turning.proofs.reversed.Given as goal

abbrev pub bits : ℕ → ℕ → ℕ → Bool
bits n x i = bit x (n - 1 - i)

abbrev pub invariant-loop-i : goal.invariant-loop-i
invariant-loop-i l = l.form ≡ form_of l.i (bits l.n l.x)
