-- `text::name_line` meets its contract. Assumes nothing.
use Rattle.std.proofs.Common.{sym, ◌∙◌, arith}
use Rattle.text.specs.laws.Line.{name_cut, name_other, name_is}
use Rattle.text.proofs.name_line.Goals as goal

pub returns-in_err-e : goal.returns-in_err-e
returns-in_err-e c = rw c.from_residual.ensures (name_cut _ _ c.in_err-e.ensures.0, omega arith)

pub returns-then-equal : goal.returns-then-equal
returns-then-equal c = (name_is _ _ _ _ c.in_ok-e.ensures.0 (sym c.equal.ensures ∙ c.if-equal.true), c.in_ok-e.ensures.1)

pub returns-else-equal : goal.returns-else-equal
returns-else-equal c = (name_other _ _ _ _ c.in_ok-e.ensures.0 (sym c.equal.ensures ∙ c.if-equal.false), omega arith)
