-- `sieve::heavy_search::step` meets its contract: a dead value, no space for k, or the number to go on with marked. Assumes nothing.
use mathlib.Core.Path.{sym, ◌∙◌}
use native.Mathlib.Omega.{arith}
use borrow.Author.Tests.{not-true, not-false}
use Rattle.residues.proofs.laws.of_children.Found.{by_shared, by_finished}
use Rattle.sieve.specs.heavy_search.laws.Step.{step_none}
use Rattle.sieve.proofs.heavy_search.step.Goals as goal
use Rattle.sieve.proofs.heavy_search.step.Goals.{else-not-t-via-then-not-t+else-t-k, else-not-t-via-else-not-t}

pub take-t-requires : goal.take-t-requires
take-t-requires c = (
  c.requires.0.held.valid,
  c.requires.0.sizes.over,
  omega (
    arith,
    c.requires.0.sizes.over,
    c.requires.0.sizes.few,
    c.requires.0.sizes.gone_all,
  ),
)

pub finish-requires : goal.finish-requires
finish-requires c = (
  sym c.requires.0.sizes.alike ∙ c.requires.0.sizes.over,
  omega
      (arith, c.requires.0.sizes.alike, c.requires.0.sizes.begin),
  omega
      (arith, c.requires.0.sizes.alike, c.requires.0.sizes.few),
  c.requires.0.sizes.marks_all,
)

pub returns-then-t-k : goal.returns-then-t-k
returns-then-t-k c =
    let a = c.args in
    by_finished a.gens.now a.h.now a.d.now a.start a.k a.gone.now a.i
    c.requires.0.sizes.alike a.marks.now c.finish.new.marks
    c.finish.ensures

pub returns-else-not-t : goal.returns-else-not-t
returns-else-not-t c =
    let a = c.args in
    let t = c.take-t in
    elim c.else-not-t.branch [
      | else-not-t-via-then-not-t+else-t-k w ↦
          step_none a.gens.now a.h.now a.d.now a.start a.k a.gone.now a.i a.s t.result.basis a.marks.now
          c.requires.0.held (t.ensures.held (not-true _ w.if-not-t.true)) w.if-t-k.false
      | else-not-t-via-else-not-t w ↦
          by_shared a.gens.now a.h.now a.d.now a.start a.k 0 a.gone.now a.i a.marks.now
          (t.ensures.shared (not-false _ w.if-not-t.false))
    ]
