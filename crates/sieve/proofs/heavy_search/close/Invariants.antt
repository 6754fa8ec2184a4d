-- `sieve::heavy_search::close` meets its contract: the picked numbers so far are done. Assumes nothing.
use mathlib.Core.Path.{◌≡◌}
use Prim.Native.Nat.{◌-◌}
use lib.ListN.{length}
use Rattle.sieve.specs.heavy_search.laws.Step.{Closing}
use Rattle.residues.specs.Room.{search_room}
use Rattle.sieve.proofs.heavy_search.close.Given as goal

abbrev pub invariant-loop-i : goal.invariant-loop-i
invariant-loop-i l = Closing l.gens l.h l.d l.start l.k l.gone l.picks l.initial.marks l.i l.marks × (length l.marks ≡ search_room)

abbrev pub decreases-loop-i : goal.decreases-loop-i
decreases-loop-i l = length l.gens - l.i
