-- `formula_check::sums::product_forms` meets its contract. Assumes nothing.
use Rattle.std.proofs.Common.{◌≡◌, ◌++◌, length, take, drop}
use Rattle.formula_check.specs.sums.Sums.{product_forms}
use Rattle.formula_check.proofs.sums.product_forms.Given as goal

abbrev pub invariant-loop-i : goal.invariant-loop-i
invariant-loop-i l = (length l.out ≡ 64) × (take l.i l.out ++ product_forms l.n l.m (drop l.i l.a) (drop l.i l.b) ≡ product_forms l.n l.m l.a l.b)
