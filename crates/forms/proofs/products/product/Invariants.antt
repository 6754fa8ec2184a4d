-- `forms::products::product` meets its contract: after i turns the form has the rows of the first i variables a. Assumes nothing.
use Prim.Native.Nat.{◌-◌}
use Rattle.forms.proofs.Making.{Making}
use Rattle.forms.proofs.products.product.Given as goal

abbrev pub invariant-loop-at : goal.invariant-loop-at
invariant-loop-at l = Making l.m l.a l.b l.end l.form l.i l.at

abbrev pub decreases-loop-at : goal.decreases-loop-at
decreases-loop-at l = l.end - l.at
