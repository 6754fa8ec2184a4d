-- `choices::choose` meets its contract: what is chosen among the generators looked at, and the rest as the greedy choice goes on. Assumes nothing.
use native.Mathlib.Omega.{arith}
use mathlib.Core.Path.{refl, sym, ◌∙◌}
use borrow.Author.Tests.{eq-eqb, ne_eqb}
use Rattle.choices.specs.Choice.{marked}
use Rattle.choices.specs.laws.Choosing.{choosing_start, choosing_failed, choosing_spanned, choosing_room, choosing_take, choosing_end}
use Rattle.choices.proofs.choose.Goals as goal
use Rattle.choices.proofs.choose.Goals.{then-marks-i-eq1+then-not-contains, else-marks-i-eq1}
use Rattle.choices.proofs.choose.Goals.{else-marks-i-eq1-via-then-marks-i-eq1+else-not-contains, else-marks-i-eq1-via-else-marks-i-eq1}

pub loop-i-init : goal.loop-i-init
loop-i-init c =
    let args = c.args in
    choosing_start args.gens.now (marked args.marks.now) _ _ c.empty-b.ensures (record { numbers = refl; forms = refl; room = omega arith }) refl

pub contains-requires : goal.contains-requires
contains-requires c = c.loop-i.invariant.valid

pub insert-b-requires : goal.insert-b-requires
insert-b-requires c = c.loop-i.invariant.valid

pub add-c-requires : goal.add-c-requires
add-c-requires c =
    let args = c.args in
    let loop = c.loop-i in (
      loop.invariant.chose.whole,
      choosing_room args.gens.now (marked args.marks.now) _ _ loop.i loop.invariant
          (omega arith) (eq-eqb _ 1 c.if-marks-i-eq1.true)
          (sym c.contains.ensures ∙ c.if-not-contains.true) _ c.insert-b.ensures,
    )

pub loop-i-preserved : goal.loop-i-preserved
loop-i-preserved c =
    let args = c.args in
    let loop = c.loop-i in
    elim c.if-marks-i-eq1.branch [
      | then-marks-i-eq1+then-not-contains w ↦
          rw (w.b-is, w.c-is)
          (choosing_take args.gens.now (marked args.marks.now) _ _ loop.i loop.invariant (omega arith)
          (eq-eqb _ 1 w.if-marks-i-eq1.true) (sym w.contains.ensures ∙ w.if-not-contains.true) _
          w.insert-b.ensures _ w.add-c.ensures)
      | else-marks-i-eq1 w ↦
          rw (w.b-is, w.c-is)
          (elim w.else-marks-i-eq1.branch [
            | else-marks-i-eq1-via-then-marks-i-eq1+else-not-contains k ↦
                choosing_spanned args.gens.now (marked args.marks.now) _ _ loop.i loop.invariant (omega arith)
                (eq-eqb _ 1 k.if-marks-i-eq1.true) (sym k.contains.ensures ∙ k.if-not-contains.false)
            | else-marks-i-eq1-via-else-marks-i-eq1 k ↦
                choosing_failed args.gens.now (marked args.marks.now) _ _ loop.i loop.invariant (omega arith)
                (ne_eqb _ 1 k.if-marks-i-eq1.false)
          ])
    ]

pub returns : goal.returns
returns c =
    let args = c.args in
    choosing_end args.gens.now (marked args.marks.now) _ _ c.loop-i.i c.loop-i.invariant (omega arith)
