-- `turning::put_columns` meets its contract. Assumes nothing.
use Rattle.turning.specs.Turning.{column}
use Rattle.turning.proofs.laws.Loops.{Put}
use Rattle.turning.proofs.put_columns.Given as goal

abbrev pub invariant-loop-l : goal.invariant-loop-l
invariant-loop-l l = Put (column l.masks) l.c l.initial.out l.out l.l
