-- `service::put_three` meets its contract. Assumes nothing.
use native.Mathlib.Omega.{arith}
use lib.ListN.{length-set}
use Rattle.service.specs.laws.Numbers.{three}
use native.Mathlib.Omega.{arith}
use Rattle.service.proofs.put_three.Goals as goal

pub bounds-words-1 : goal.bounds-words-1
bounds-words-1 c = let l = length-set c.args.words.now 0 c.args.x in let h = c.requires in omega arith

pub returns : goal.returns
returns c = three c.args.words.now c.args.x c.args.y c.args.z c.requires
