-- `words::tables::seek` meets its contract: from the slot `q` on the search gives what it gives from the first. Assumes nothing.
use Rattle.std.proofs.Common.{◌≡◌, ◌<◌, ◌+◌, ◌-◌, refl, arith}
use Rattle.words.specs.tables.Table.{tries}
use Rattle.words.specs.tables.laws.Seek.{seek_more, seek_free, seek_found, seek_none}
use Rattle.words.proofs.tables.seek.Goals as goal
use Rattle.words.proofs.tables.seek.Goals.{then-f-eq0-via-then-f-eq0, then-f-eq0-via-else-f-eq0+then-d-f}

pub loop-t-init : goal.loop-t-init
loop-t-init c = record { same = refl; inside = c.requires.1 }

pub offset_bounds-d-f : goal.offset_bounds-d-f
offset_bounds-d-f c = omega (arith, c.requires.0 c.loop-t.q)

pub bounds-d-f : goal.bounds-d-f
bounds-d-f c = omega (arith, c.requires.0 c.loop-t.q)

pub returns-then-f-eq0 : goal.returns-then-f-eq0
returns-then-f-eq0 c =
    let l = c.loop-t in
    let a = c.args in
    let more : 0 < tries - l._t = omega arith in
    elim c.then-f-eq0.branch [
      | then-f-eq0-via-then-f-eq0 w ↦ seek_free a.slots.now a.d.now a.from a.x l.q _ l.invariant more w.if-f-eq0.true
      | then-f-eq0-via-else-f-eq0+then-d-f w ↦ seek_found a.slots.now a.d.now a.from a.x l.q _ l.invariant more w.if-d-f.true
    ]

pub loop-t-preserved : goal.loop-t-preserved
loop-t-preserved c =
    let l = c.loop-t in
    let a = c.args in
    let more : 0 < tries - l._t = omega arith in
    let e : tries - (l._t + 1) ≡ tries - l._t - 1 = omega arith in
    rw e (seek_more a.slots.now a.d.now a.from a.x l.q _ l.invariant more c.if-f-eq0.false c.if-d-f.false c.after-q.result c.after-q.ensures)

pub returns : goal.returns
returns c =
    let l = c.loop-t in
    let a = c.args in
    seek_none a.slots.now a.d.now a.from a.x l.q _ l.invariant (omega arith)
