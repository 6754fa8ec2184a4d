-- `relations::pairs::link` meets its contract: the rows so far are in the table. Assumes nothing.
use mathlib.Core.Path.{sym, ◌∙◌}
use native.Mathlib.Omega.{arith}
use lib.ListN.{length}
use Rattle.relations.specs.pairs.laws.Link.{link_start, row_none, link_end}
use Rattle.relations.proofs.pairs.link.Goals as goal
use Rattle.relations.proofs.pairs.link.Goals.{then-v-i-ne0, else-v-i-ne0}

pub block_end-end-requires : goal.block_end-end-requires
block_end-end-requires c = let p = c.requires in (p.0, p.2)

pub loop-i-init : goal.loop-i-init
loop-i-init c =
    let a = c.args in
    let p = c.requires in
    let h = c.fill in
    let begin = link_start a.v.now a.n a.base h.new.self a.links.now (length a.heads.now) (h.ensures.after (λ y e. e)) p.3 p.4 p.5 in
    (omega arith, begin)

pub link_row-requires : goal.link_row-requires
link_row-requires c =
    let p = c.requires in
    let l = c.loop-i in (
      record {
        few = p.0;
        values_all = p.1;
        from = l.invariant.0;
        inside = omega arith;
        block = omega arith;
        value = c.if-v-i-ne0.true;
      },
      l.invariant.1,
    )

pub loop-i-preserved : goal.loop-i-preserved
loop-i-preserved c =
    let a = c.args in
    let p = c.requires in
    let l = c.loop-i in
    elim c.if-v-i-ne0.branch [
      | then-v-i-ne0 w ↦ rw (w.heads-is, w.links-is) (omega arith, w.link_row.ensures)
      | else-v-i-ne0 w ↦
          let next = row_none a.v.now a.n a.base l.heads l.links l.i p.0 l.invariant.0 (omega arith) (omega (arith, w.if-v-i-ne0.false)) l.invariant.1 in
          rw (w.heads-is, w.links-is) (omega arith, next)
    ]

pub shape_of-heads : goal.shape_of-heads
shape_of-heads c = c.loop-i.invariant.1.heads_all ∙ sym c.requires.3

pub shape_of-links : goal.shape_of-links
shape_of-links c = c.loop-i.invariant.1.links_all ∙ sym c.requires.4

pub returns : goal.returns
returns c =
    let a = c.args in
    let l = c.loop-i in
    let e = c.block_end-end in
    link_end a.v.now a.n a.base l.heads l.links e.result e.ensures l.i (omega arith) l.invariant.1
