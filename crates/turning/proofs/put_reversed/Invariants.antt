-- `turning::put_reversed` meets its contract. Assumes nothing.
use mathlib.Core.List.{List}
use Prim.Native.Nat.{ℕ}
use lib.ListN.{length, get_or}
use Rattle.turning.specs.Turning.{reversed}
use Rattle.turning.proofs.laws.Loops.{Put}
use Rattle.turning.proofs.put_reversed.Given as goal

abbrev pub each : ℕ → List ℕ → ℕ → ℕ
each n masks l = reversed n (get_or masks l 0)

abbrev pub invariant-loop-l : goal.invariant-loop-l
invariant-loop-l l = Put (each l.n l.masks) (length l.masks) l.initial.out l.out l.l
