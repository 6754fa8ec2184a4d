-- `maps::form_lists::fill_costs` meets its contract. Assumes nothing.
use mathlib.Core.Path.{◌≡◌}
use mathlib.Core.List.{◌++◌}
use Prim.Native.Nat.{◌-◌}
use lib.ListN.{length, take}
use Rattle.maps.specs.Generators.{list_of}
use Rattle.maps.specs.Costs.{generator_cost}
use Rattle.maps.proofs.form_lists.fill_costs.Given as goal

abbrev pub invariant-loop-i : goal.invariant-loop-i
invariant-loop-i l =
    (length l.out ≡ length l.initial.out)
    × (take l.i l.out ++ list_of (generator_cost l.m) l.i (l.c - l.i) ≡ list_of (generator_cost l.m) 0 l.c)
