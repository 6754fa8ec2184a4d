-- `sieve::heavy_search::close` meets its contract: the picked numbers so far are done. Assumes nothing.
use mathlib.Core.Path.{sym, ◌∙◌}
use native.Mathlib.Omega.{arith}
use Rattle.sieve.specs.heavy_search.laws.Step.{closing_start, closing_next, closing_end}
use Rattle.sieve.proofs.heavy_search.close.Goals as goal

pub next_marked-i-requires : goal.next_marked-i-requires
next_marked-i-requires c = (
  c.requires.0.sizes.begin,
  omega
      (arith, c.requires.0.sizes.few, c.requires.1),
)

pub loop-i-init : goal.loop-i-init
loop-i-init c =
    let a = c.args in
    let N = c.next_marked-i.ensures in (
      closing_start a.gens.now a.h.now a.d.now a.start a.k a.gone.now a.picks.now a.marks.now c.next_marked-i.result
          N.low N.high N.none,
      c.requires.0.sizes.marks_all,
    )

pub step-requires : goal.step-requires
step-requires c =
    let P = c.requires.0 in (
      record {
        sizes =
            record {
              alike = P.sizes.alike;
              over = P.sizes.over;
              few = P.sizes.few;
              begin = P.sizes.begin;
              gone_all = P.sizes.gone_all;
              marks_all = c.loop-i.invariant.1;
            };
        held = P.held;
      },
      c.loop-i-test.true,
    )

pub overflow_add-i : goal.overflow_add-i
overflow_add-i c =
    omega (arith, c.loop-i-test.true, c.requires.0.sizes.few)

pub next_marked-i-requires-in-loop-i : goal.next_marked-i-requires-in-loop-i
next_marked-i-requires-in-loop-i c = (
  omega (arith, c.loop-i-test.true),
  omega
      (arith, c.requires.0.sizes.few, c.requires.1),
)

pub loop-i-smaller : goal.loop-i-smaller
loop-i-smaller c = omega (
  arith,
  c.loop-i-test.true,
  c.next_marked-i-in-loop-i.ensures.low,
  c.next_marked-i-in-loop-i.ensures.high,
)

pub loop-i-preserved : goal.loop-i-preserved
loop-i-preserved c =
    let a = c.args in
    let l = c.loop-i in
    let N = c.next_marked-i-in-loop-i.ensures in (
      closing_next a.gens.now a.h.now a.d.now a.start a.k a.gone.now a.picks.now a.marks.now l.i
          c.next_marked-i-in-loop-i.result l.marks
          c.step.new.marks l.invariant.0 c.step.ensures N.low
          N.high N.none,
      c.step.auto.marks ∙ l.invariant.1,
    )

pub shape_of-marks : goal.shape_of-marks
shape_of-marks c = c.loop-i.invariant.1 ∙ sym c.requires.0.sizes.marks_all

pub returns : goal.returns
returns c =
    let a = c.args in
    let l = c.loop-i in
    closing_end a.gens.now a.h.now a.d.now a.start a.k a.gone.now a.picks.now a.marks.now l.i l.marks
    l.invariant.0 c.loop-i-test.false
