-- `relations::pairs::link_row` meets its contract: the pairs of the row so far are in the table. Assumes nothing.
use mathlib.Core.Path.{sym, ◌∙◌}
use native.Mathlib.Omega.{arith}
use Rattle.relations.specs.pairs.laws.Link.{row_start, row_skip, row_one, row_end}
use Rattle.relations.proofs.pairs.link_row.Goals as goal
use Rattle.relations.proofs.pairs.link_row.Goals.{then-y-ne0, else-y-ne0}

pub loop-j-init : goal.loop-j-init
loop-j-init c =
    let a = c.args in
    let p = c.requires in
    (omega arith, omega arith, row_start a.v.now a.n a.base a.heads.now a.links.now a.i p.0 p.1)

pub loop-j-preserved : goal.loop-j-preserved
loop-j-preserved c =
    let a = c.args in
    let p = c.requires in
    let l = c.loop-j in
    elim c.if-y-ne0.branch [
      | then-y-ne0 w ↦
          let q = w.bucket-q in
          let next = row_one a.v.now a.n a.base l.heads l.links a.i p.0 l.j l.invariant.0 (omega arith) l.invariant.2 w.if-y-ne0.true q.result in
          rw (w.heads-is, w.links-is) (omega arith, omega arith, next q.ensures.0 q.ensures.1)
      | else-y-ne0 w ↦
          let next = row_skip a.v.now a.n a.base l.heads l.links a.i p.0 l.j l.invariant.0 (omega arith) l.invariant.2 (omega (arith, w.if-y-ne0.false)) in
          rw (w.heads-is, w.links-is) (omega arith, omega arith, next)
    ]

pub shape_of-heads : goal.shape_of-heads
shape_of-heads c = c.loop-j.invariant.2.heads_all ∙ sym c.requires.1.heads_all

pub shape_of-links : goal.shape_of-links
shape_of-links c = c.loop-j.invariant.2.links_all ∙ sym c.requires.1.links_all

pub returns : goal.returns
returns c =
    let a = c.args in
    let p = c.requires in
    let l = c.loop-j in
    row_end a.v.now a.n a.base l.heads l.links a.i p.0 l.j l.invariant.1 (omega arith) l.invariant.2
