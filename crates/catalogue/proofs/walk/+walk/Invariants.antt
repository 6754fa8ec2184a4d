-- What `catalogue::walk::walk` keeps: the entries so far are met, and those to come, met, give the final state. Assumes nothing.
use mathlib.Core.Path.{◌≡◌}
use mathlib.Core.Logic.{◌≢◌}
use Prim.Native.Nat.{◌-◌, ◌<◌, ◌≤◌}
use lib.ListN.{length, get_or}
use Rattle.bases.specs.Basis.{rows_of}
use Rattle.records.specs.Records.{runs}
use Rattle.records.specs.Keep.{chain_of, state_of}
use Rattle.catalogue.specs.noting.Noting.{met}
use Rattle.catalogue.specs.walk.Walk.{search}
use Rattle.catalogue.proofs.Going.{Going}
use Rattle.weights.specs.rank_rows.Stretch.{row_room}
use Rattle.catalogue.proofs.walk.+walk.Given as goal

abbrev pub decreases-walk : goal.decreases-walk
decreases-walk l = l.missing

abbrev pub invariant-loop-j : goal.invariant-loop-j
invariant-loop-j l =
    (l.start ≤ l.j) × Going l.gens l.k (rows_of l.b) (chain_of l.c) l.missing l.aim l.order l.prices
    (runs (met l.gens l.order l.prices l.aim) (state_of l.initial.counts l.initial.out)
    (search l.gens l.k (rows_of l.b) (chain_of l.c) (length l.gens - l.start) l.start l.missing))
    (length l.initial.out) l.j l.counts l.out l.mine × (length l.rows ≡ row_room) × (l.j < length l.gens → get_or l.marks l.j 0 ≢ 0)

abbrev pub decreases-loop-j : goal.decreases-loop-j
decreases-loop-j l = length l.gens - l.j
