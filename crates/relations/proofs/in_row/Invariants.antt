-- `relations::in_row` meets its contract: no relation of the row so far is passed. Assumes nothing.
use mathlib.Core.Bool.{false}
use Prim.Native.Nat.{suc, ◌-◌}
use lib.ListN.{length}
use Rattle.relations.specs.laws.Places.{Going}
use Rattle.relations.proofs.in_row.Given as goal

abbrev pub invariant-loop-h : goal.invariant-loop-h
invariant-loop-h l = Going l.gens l.s l.v false l.base l.g l.initial.h l.initial.e l.heads l.links l.base l.g l.h l.e

abbrev pub decreases-loop-h : goal.decreases-loop-h
decreases-loop-h l = suc (length l.gens) - l.h
