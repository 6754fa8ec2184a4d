-- `relations::pairs::link` meets its contract: the rows so far are in the table. Assumes nothing.
use Prim.Native.Nat.{◌-◌, ◌*◌, ◌≤◌}
use Rattle.relations.specs.pairs.Linking.{Linking}
use Rattle.relations.proofs.pairs.link.Given as goal

abbrev pub invariant-loop-i : goal.invariant-loop-i
invariant-loop-i l = (l.base ≤ l.i) × Linking l.v l.n l.base ((l.i - l.base) * 4096) l.heads l.links
