-- `relations::in_block` meets its contract: no relation of the block so far is passed. Assumes nothing.
use mathlib.Core.Path.{◌≡◌}
use Prim.Native.Nat.{◌-◌}
use lib.ListN.{length}
use Rattle.relations.specs.laws.Places.{Going}
use Rattle.relations.proofs.in_block.Given as goal

abbrev pub invariant-loop-p : goal.invariant-loop-p
invariant-loop-p l =
    Going l.gens l.s l.v l.lines l.initial.p.base l.initial.p.g l.initial.p.h l.initial.p.e l.heads l.links l.p.base l.p.g l.p.h l.p.e × (l.p.base ≡ l.base)

abbrev pub decreases-loop-p : goal.decreases-loop-p
decreases-loop-p l = length l.gens - l.p.g
