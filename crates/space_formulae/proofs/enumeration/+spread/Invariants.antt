-- `space_formulae::enumeration::spread` meets its contract, by recursion on the number of missing generators: the records so far
-- are written, and those to come, written, give the final state. Assumes nothing.
use Prim.Native.Nat.{◌-◌}
use lib.ListN.{length}
use Rattle.bases.specs.Basis.{rows_of}
use Rattle.choices.specs.Choice.{numbers_of}
use Rattle.records.specs.Records.{run}
use Rattle.records.specs.Keep.{state_of}
use Rattle.space_formulae.specs.enumeration.Spread.{formulae_from}
use Rattle.space_formulae.proofs.Going.{Going}
use Rattle.space_formulae.proofs.enumeration.+spread.Given as goal

abbrev pub invariant-loop-j : goal.invariant-loop-j
invariant-loop-j l =
    Going l.gens l.w l.targets (rows_of l.b) (numbers_of l.c) l.missing l.limit
    (run l.limit (state_of l.initial.counts l.initial.out) (formulae_from l.gens l.w l.targets (rows_of l.b) (numbers_of l.c) (length l.gens -
    l.start) l.start l.missing)) (length l.initial.out) l.j l.counts l.out

abbrev pub decreases-spread : goal.decreases-spread
decreases-spread l = l.missing
