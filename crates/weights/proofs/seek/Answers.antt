-- `weights::seek` meets its contract: the table has `slot_count` slots and is looked through from the value's own on. Assumes nothing.
use Rattle.weights.specs.laws.Seek.{slot_sought}
use Rattle.weights.proofs.seek.Goals as goal

pub returns : goal.returns
returns c =
    let a = c.args in
    let size = c.requires.size in
    let b = c.bucket in
    slot_sought a.slots.now a.d.now a.x b.result c.seek.result size b.ensures.0 c.seek.ensures
