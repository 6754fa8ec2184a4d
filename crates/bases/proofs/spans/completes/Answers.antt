-- `bases::spans::completes` meets its contract. Assumes nothing.
use Rattle.std.proofs.Common.{refl}
use Rattle.bases.specs.Basis.{rows_of}
use Rattle.bases.proofs.laws.of_spans.Completing.{completing_full, completing_in, completing_out, completing_end}
use Rattle.bases.proofs.spans.completes.Goals as goal
use Rattle.bases.proofs.spans.completes.Goals.{then-reduce_rows-eq0, else-reduce_rows-eq0}

pub loop-i-init : goal.loop-i-init
loop-i-init c = record { valid = c.requires; is = refl }

pub insert-d-requires : goal.insert-d-requires
insert-d-requires c = c.loop-i.invariant.valid

pub returns-then-d-w : goal.returns-then-d-w
returns-then-d-w c =
    let a = c.args in
    let l = c.loop-i in
    completing_full a.gens.now a.w.now (rows_of a.b) a.start l.d l.i l.invariant c.if-d-w.true

pub loop-i-preserved : goal.loop-i-preserved
loop-i-preserved c =
    let a = c.args in
    let l = c.loop-i in
    let more = c.loop-i-test.true in
    let r = c.reduce_rows in
    elim c.if-reduce_rows-eq0.branch [
      | then-reduce_rows-eq0 w ↦ rw w.d-is
          (completing_in a.gens.now a.w.now (rows_of a.b) a.start l.d l.i l.invariant more r.result r.ensures w.if-reduce_rows-eq0.true _ w.insert-d.ensures)
      | else-reduce_rows-eq0 w ↦ rw w.d-is
          (completing_out a.gens.now a.w.now (rows_of a.b) a.start l.d l.i l.invariant more r.result r.ensures w.if-reduce_rows-eq0.false)
    ]

pub returns : goal.returns
returns c =
    let a = c.args in
    let l = c.loop-i in
    completing_end a.gens.now a.w.now (rows_of a.b) a.start l.d l.i l.invariant c.loop-i-test.false
