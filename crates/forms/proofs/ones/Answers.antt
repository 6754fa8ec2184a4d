-- `forms::ones` meets its contract. Assumes nothing.
use Rattle.std.proofs.Common.{arith}
use Rattle.forms.specs.Weight.{ones_weight}
use Rattle.forms.proofs.ones.Goals as goal

pub returns : goal.returns
returns c = ones_weight 64 c.args.x (omega arith)
