-- `words::tables::seek` meets its contract: from the slot `q` on the search gives what it gives from the first. Assumes nothing.
use Rattle.std.proofs.Common.{◌-◌}
use Rattle.words.specs.tables.Table.{tries}
use Rattle.words.specs.tables.laws.Seek.{Seeking}
use Rattle.words.proofs.tables.seek.Given as goal

abbrev pub invariant-loop-t : goal.invariant-loop-t
invariant-loop-t l = Seeking l.slots l.d l.from l.x l.q (tries - l._t)
