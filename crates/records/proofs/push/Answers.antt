-- `records::push` meets its contract: the number stands after the others. Assumes nothing.
use native.Mathlib.Omega.{arith}
use Rattle.records.proofs.Keeping.{pushed}
use Rattle.records.proofs.push.Goals as goal

pub returns : goal.returns
returns c = pushed c.args.c c.args.j 1 c.requires (omega arith)
