-- `formula_check::sums::adders_of` meets its contract. Assumes nothing.
use Rattle.std.proofs.Common.{◌≡◌, ◌+◌, ◌*◌, ◌≤◌, drop}
use Rattle.formula_check.specs.sums.Sums.{adders_of}
use Rattle.formula_check.proofs.sums.adders_of.Given as goal

abbrev pub invariant-loop-mask : goal.invariant-loop-mask
invariant-loop-mask l = (l.sum + adders_of (drop l.mask-index l.masks) ≡ adders_of l.masks) × (l.sum ≤ 64 * l.mask-index)
