-- `forms::coordinate` meets its contract: the masked bit is the coordinate, and a word has none from 64 on. Assumes nothing.
use Rattle.std.proofs.Common.{sym, ◌∙◌, arith, le-ltb}
use Rattle.linear.specs.laws.Bit.{bit_below}
use Rattle.linear.proofs.laws.Shift.{bit_test}
use Rattle.forms.proofs.coordinate.Goals as goal

pub returns-then-t-lt64 : goal.returns-then-t-lt64
returns-then-t-lt64 c = bit_test c.args.form c.args.t

pub returns-else-t-lt64 : goal.returns-else-t-lt64
returns-else-t-lt64 c = le-ltb c.args.t 64 c.if-t-lt64.false ∙ sym (bit_below c.args.form 64 c.args.t (omega arith) (omega arith))
