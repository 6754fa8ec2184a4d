-- `sieve::join::join` meets its contract: the numbers so far are judged. Assumes nothing.
use mathlib.Core.Path.{sym, ◌∙◌}
use mathlib.Core.Bool.{true≢false}
use native.Mathlib.Omega.{arith}
use lib.ListN.{length-set}
use Rattle.sieve.specs.join.laws.Join.{walk_start, walk_judging, walk_more, walk_end}
use Rattle.sieve.proofs.join.join.Goals as goal
use Rattle.sieve.proofs.join.join.Goals.{else-p-ne0, then-p-ne0}

pub halves-requires : goal.halves-requires
halves-requires c = let P = c.requires in (P.begin, P.few, P.gone_all, P.all, P.picks_all)

pub next_marked-i-requires : goal.next_marked-i-requires
next_marked-i-requires c = (
  c.requires.begin,
  omega (
    arith,
    c.requires.few,
    c.halves.auto.picks,
    c.requires.picks_all,
  ),
)

pub loop-i-init : goal.loop-i-init
loop-i-init c =
    let a = c.args in
    let H = c.halves in
    walk_start a.d.now a.start a.x a.left a.gone.now a.slots.now a.w.now a.picks.now H.new.picks
    H.auto.picks c.requires H.ensures
    c.next_marked-i.result c.next_marked-i.ensures

pub third-p-requires : goal.third-p-requires
third-p-requires c =
    let a = c.args in
    let l = c.loop-i in
    walk_judging a.d.now a.start a.x a.left a.gone.now a.slots.now a.w.now l.i l.picks l.some l.invariant
    c.loop-i-test.true

pub bounds-picks-i : goal.bounds-picks-i
bounds-picks-i c =
    omega (arith, c.loop-i-test.true, c.requires.few, c.loop-i.invariant.asked.picks_all)

pub overflow_add-i : goal.overflow_add-i
overflow_add-i c =
    omega (arith, c.loop-i-test.true, c.requires.few)

pub next_marked-i-requires-in-loop-i : goal.next_marked-i-requires-in-loop-i
next_marked-i-requires-in-loop-i c =
    let l = c.loop-i in (
      omega (arith, c.loop-i-test.true),
      omega (
        arith,
        c.requires.few,
        length-set l.picks l.i
            c.third-p.result,
        l.invariant.asked.picks_all,
      ),
    )

pub loop-i-smaller : goal.loop-i-smaller
loop-i-smaller c = omega (arith, c.loop-i-test.true, c.next_marked-i-in-loop-i.ensures.low, c.next_marked-i-in-loop-i.ensures.high)

pub loop-i-preserved : goal.loop-i-preserved
loop-i-preserved c =
    let a = c.args in
    let l = c.loop-i in
    let r = c.third-p in
    walk_more a.d.now a.start a.x a.left a.gone.now a.slots.now a.w.now l.i l.picks l.some l.invariant
    c.loop-i-test.true r.result r.ensures c.if-p-ne0.some
    (λ e. elim c.if-p-ne0.branch [ then-p-ne0 u ↦ absurd (true≢false (sym u.some-is ∙ e)) | else-p-ne0 u ↦ (u.if-p-ne0.false, sym u.some-is ∙ e) ])
    c.next_marked-i-in-loop-i.result c.next_marked-i-in-loop-i.ensures

pub shape_of-picks : goal.shape_of-picks
shape_of-picks c =
    c.loop-i.invariant.asked.picks_all ∙ sym c.requires.picks_all

pub returns : goal.returns
returns c =
    let a = c.args in
    let l = c.loop-i in
    walk_end a.d.now a.start a.x a.left a.gone.now a.slots.now a.w.now l.i l.picks l.some l.invariant
    c.loop-i-test.false
