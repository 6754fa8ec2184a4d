-- `relations::pairs::link_row` meets its contract: the pairs of the row so far are in the table. Assumes nothing.
use Prim.Native.Nat.{◌+◌, ◌-◌, ◌*◌, ◌<◌, ◌≤◌}
use Rattle.relations.specs.pairs.Linking.{Linking}
use Rattle.relations.proofs.pairs.link_row.Given as goal

abbrev pub invariant-loop-j : goal.invariant-loop-j
invariant-loop-j l = (l.i < l.j) × (l.j ≤ l.n) × Linking l.v l.n l.base ((l.i - l.base) * 4096 + l.j) l.heads l.links
