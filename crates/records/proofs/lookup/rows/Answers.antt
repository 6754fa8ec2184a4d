-- `records::lookup::rows` meets its contract. Assumes nothing.
use mathlib.Core.Path.{ap₂, ◌∙◌}
use lib.ListN.{drop}
use Rattle.records.proofs.lookup.rows.Goals as goal

pub returns : goal.returns
returns c = c.words_behind.ensures ∙ ap₂ drop c.saturating_sub.ensures c.entry-record.ensures
