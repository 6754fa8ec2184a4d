-- `forms::clear` meets its contract: the comparison tells the coordinate at the row's lead. Assumes nothing.
use mathlib.Core.Path.{sym}
use Rattle.forms.specs.laws.Clear.{clear_less, clear_not}
use Rattle.forms.proofs.clear.Goals as goal

pub returns-then-w-v : goal.returns-then-w-v
returns-then-w-v c = sym (clear_less c.args.row c.args.v c.if-w-v.true)

pub returns-else-w-v : goal.returns-else-w-v
returns-else-w-v c = sym (clear_not c.args.row c.args.v c.if-w-v.false)
