-- `turning::column` meets its contract: after t turns the form has the bits of the first t masks. Assumes nothing.
use mathlib.Core.Path.{◌≡◌}
use mathlib.Core.Bool.{Bool}
use mathlib.Core.List.{List}
use Prim.Native.Nat.{ℕ}
use lib.ListN.{get_or}
use Rattle.linear.specs.Bit.{bit}
use Rattle.forms.specs.products.Product.{form_of}
use Rattle.turning.proofs.column.Given as goal

abbrev pub bits : List ℕ → ℕ → ℕ → Bool
bits masks l t = bit (get_or masks t 0) l

abbrev pub invariant-loop-t : goal.invariant-loop-t
invariant-loop-t l = l.form ≡ form_of l.t (bits l.masks l.l)
