-- `relations::rows::value_at` meets its contract: no number from n on has a value. Assumes nothing.
use mathlib.Core.Path.{sym}
use Rattle.relations.proofs.rows.value_at.Goals as goal

pub returns-else-h-n : goal.returns-else-h-n
returns-else-h-n c = sym (c.requires.none c.args.h c.if-h-n.false)
