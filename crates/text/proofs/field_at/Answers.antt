-- `text::field_at` meets its contract. Assumes nothing.
use Rattle.std.proofs.Common.{sym, arith}
use Rattle.text.specs.laws.Line.{field_cut, field_not, field_is}
use Rattle.text.proofs.field_at.Goals as goal

pub returns-in_err-e : goal.returns-in_err-e
returns-in_err-e c = rw c.from_residual.ensures (field_cut _ _ _ _ c.in_err-e.ensures.0, omega arith)

pub returns-in_err-v : goal.returns-in_err-v
returns-in_err-v c = rw c.from_residual-in_err-v.ensures (field_not _ _ _ _ _ _ c.in_ok-e.ensures.0 (sym c.in_err-v.ensures), omega arith)

pub returns : goal.returns
returns c = (field_is _ _ _ _ _ _ _ c.in_ok-e.ensures.0 (sym c.in_ok-v.ensures), c.in_ok-e.ensures.1)
