-- `choices::add` meets its contract. Assumes nothing.
use Rattle.choices.specs.laws.Choosing.{added}
use Rattle.choices.proofs.add.Goals as goal

pub returns : goal.returns
returns c = added c.args.c c.args.j c.args.g c.requires.0 c.requires.1
