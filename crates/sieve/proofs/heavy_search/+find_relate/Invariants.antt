-- What `sieve::heavy_search::find` and `relate` keep: their measures (a search comes before the search along relations of as many missing dimensions, which
-- goes on with fewer), and the invariants of their loops. Assumes nothing.
use mathlib.Core.Path.{◌≡◌}
use Prim.Native.Nat.{◌+◌, ◌-◌, ◌*◌, ◌≤◌}
use lib.ListN.{length}
use Rattle.residues.specs.Room.{search_room}
use Rattle.weights.specs.rank_rows.Stretch.{row_room}
use Rattle.relations.specs.Relations.{later, Placed}
use Rattle.sieve.specs.heavy_search.laws.Sweep.{Sweeping}
use Rattle.sieve.specs.heavy_search.laws.Relate.{PassedMet}
use Rattle.sieve.proofs.heavy_search.+find_relate.Given as goal

abbrev pub decreases-find : goal.decreases-find
decreases-find l = 2 * l.missing + 1

abbrev pub decreases-relate : goal.decreases-relate
decreases-relate l = 2 * l.missing

abbrev pub invariant-find-loop-r : goal.invariant-find-loop-r
invariant-find-loop-r l =
    Sweeping l.gens l.h l.d l.start l.k l.missing l.initial.gone l.w l.initial.marks l.r l.j l.gone l.marks × (length l.rows ≡ row_room)
    × (length l.marks ≡ search_room) × (length l.picks ≡ search_room) × (length l.mine ≡ search_room) × (l.r ≤ 200)

abbrev pub decreases-find-loop-r : goal.decreases-find-loop-r
decreases-find-loop-r l = l.r * 4097 + (length l.gens - l.j)

abbrev pub invariant-relate-loop-u : goal.invariant-relate-loop-u
invariant-relate-loop-u l =
    PassedMet l.gens l.h l.d l.start l.k l.missing l.lines l.gone l.w l.initial.marks l.u l.marks × Placed l.gens l.v l.u l.heads l.links
    × (length l.rows ≡ row_room) × (length l.marks ≡ search_room) × (length l.other ≡ search_room) × (length l.mine ≡ search_room)

abbrev pub decreases-relate-loop-u : goal.decreases-relate-loop-u
decreases-relate-loop-u l = later l.gens l.u
