-- `maps::form_lists::fill_generators` meets its contract. Assumes nothing.
use mathlib.Core.Path.{◌≡◌}
use mathlib.Core.List.{◌++◌}
use Prim.Native.Nat.{◌-◌}
use lib.ListN.{length, take}
use Rattle.maps.specs.Generators.{list_of, generator_form}
use Rattle.maps.proofs.form_lists.fill_generators.Given as goal

abbrev pub invariant-loop-j : goal.invariant-loop-j
invariant-loop-j l =
    (length l.g ≡ length l.initial.g)
    × (take l.j l.g ++ list_of (generator_form l.n l.m) l.j (l.c - l.j) ≡ list_of (generator_form l.n l.m) 0 l.c)
