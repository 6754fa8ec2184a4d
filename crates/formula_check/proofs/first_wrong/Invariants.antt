-- `formula_check::first_wrong` meets its contract. Assumes nothing.
use Rattle.std.proofs.Common.{◌≡◌, drop}
use Rattle.formula_check.specs.Formula.{first_wrong}
use Rattle.formula_check.proofs.first_wrong.Given as goal

abbrev pub invariant-loop-t : goal.invariant-loop-t
invariant-loop-t l = first_wrong l.shape l.n l.m l.forms (drop l.t l.rows) l.t ≡ first_wrong l.shape l.n l.m l.forms l.rows 0
