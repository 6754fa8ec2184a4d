-- `maps::form_lists::fill_targets` meets its contract. Assumes nothing.
use mathlib.Core.Path.{◌≡◌}
use mathlib.Core.List.{◌++◌}
use Prim.Native.Nat.{◌-◌}
use lib.ListN.{length, take}
use Rattle.maps.specs.Generators.{list_of}
use Rattle.maps.specs.Target.{target_form}
use Rattle.maps.proofs.form_lists.fill_targets.Given as goal

abbrev pub invariant-loop-i : goal.invariant-loop-i
invariant-loop-i l =
    (length l.t ≡ length l.initial.t)
    × (take l.i l.t ++ list_of (target_form l.shape l.n l.m) l.i (l.u - l.i) ≡ list_of (target_form l.shape l.n l.m) 0 l.u)
