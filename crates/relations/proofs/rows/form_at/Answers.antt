-- `relations::rows::form_at` meets its contract: behind a list's end is no word. Assumes nothing.
use mathlib.Core.Path.{sym}
use lib.ListN.{get_or-eq_default}
use Rattle.relations.proofs.rows.form_at.Goals as goal

pub returns-else-h-gens : goal.returns-else-h-gens
returns-else-h-gens c = sym (get_or-eq_default c.args.gens.now 0 c.if-h-gens.false)
