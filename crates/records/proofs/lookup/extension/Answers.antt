-- `records::lookup::extension` meets its contract. Assumes nothing.
use mathlib.Core.Path.{ap₂, ◌∙◌}
use lib.ListN.{take}
use Rattle.records.proofs.lookup.extension.Goals as goal

pub returns : goal.returns
returns c = c.first_words.ensures ∙ ap₂ take c.saturating_sub.ensures c.entry-record.ensures
