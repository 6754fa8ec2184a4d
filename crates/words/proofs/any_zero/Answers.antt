-- `words::any_zero` meets its contract. Assumes nothing.
use Rattle.std.proofs.Common.{◌∙◌}
use Rattle.words.specs.laws.Scan.{any_zero}
use Rattle.words.proofs.any_zero.Goals as goal

pub returns : goal.returns
returns c = c.contains.ensures.value ∙ any_zero _
