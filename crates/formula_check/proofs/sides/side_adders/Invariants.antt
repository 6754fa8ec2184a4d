-- `formula_check::sides::side_adders` meets its contract: it walks down the masks, and the sum is the adders of those that it has seen. Assumes nothing.
use Rattle.formula_check.specs.sides.Sides.{Counting}
use Rattle.formula_check.proofs.sides.side_adders.Given as goal

abbrev pub invariant-loop-i : goal.invariant-loop-i
invariant-loop-i l = Counting l.masks l.i l.slots l.sum
