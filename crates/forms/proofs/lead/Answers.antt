-- `forms::lead` meets its contract: the zeros above the lead, and the lead, make 63. Assumes nothing.
use Rattle.std.proofs.Common.{sym, ap, ◌∙◌, arith}
use Rattle.linear.specs.Bit.{top}
use Rattle.linear.proofs.laws.Shift.{top_leading, top_zero}
use Rattle.forms.proofs.lead.Goals as goal

pub returns-then-x-eq0 : goal.returns-then-x-eq0
returns-then-x-eq0 c = sym (ap top c.if-x-eq0.true ∙ top_zero)

pub returns-else-x-eq0 : goal.returns-else-x-eq0
returns-else-x-eq0 c = (top_leading c.args.x c.if-x-eq0.false (omega arith)).1
