-- `relations::seek` meets its contract: no relation so far is passed. Assumes nothing.
use Prim.Native.Nat.{◌-◌}
use lib.ListN.{length}
use Rattle.relations.specs.laws.Places.{Going}
use Rattle.relations.proofs.seek.Given as goal

abbrev pub invariant-loop-p : goal.invariant-loop-p
invariant-loop-p l =
    Going l.gens l.s l.v l.lines l.initial.p.base l.initial.p.g l.initial.p.h l.initial.p.e l.heads l.links l.p.base l.p.g l.p.h l.p.e

abbrev pub decreases-loop-p : goal.decreases-loop-p
decreases-loop-p l = length l.gens - l.p.base
