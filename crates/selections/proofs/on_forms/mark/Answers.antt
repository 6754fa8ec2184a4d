-- `selections::on_forms::mark` meets its contract: with the numbers to come marked too, the marks are those of all. Assumes nothing.
use native.Mathlib.Omega.{arith}
use mathlib.Core.Path.{sym, subst}
use mathlib.Core.List.{List}
use Prim.Native.Nat.{ℕ, ◌+◌, ◌<◌}
use lib.ListN.{length, get_or}
use Rattle.linear.proofs.laws.Order.{mem_get_d}
use Rattle.selections.proofs.laws.of_on_forms.Marking.{Marking, marking_start, marking_skip, marking_next, marking_end}
use Rattle.selections.proofs.on_forms.mark.Goals as goal
use Rattle.selections.proofs.on_forms.mark.Goals.{else-e-skip, then-e-skip}

pub loop-e-init : goal.loop-e-init
loop-e-init c = marking_start c.args.sel.now c.args.skip c.args.marks.now

pub bounds-marks-e : goal.bounds-marks-e
bounds-marks-e c = (let it : (let a = c.args in let l = c.loop-e in get_or a.sel.now l.e-index 0 < length l.marks) = let a = c.args in let l = c.loop-e in
    let h = c.requires (get_or a.sel.now l.e-index 0) (mem_get_d a.sel.now l.e-index 0 (omega arith)) in omega (arith, h, l.invariant.same) in it)

pub loop-e-preserved : goal.loop-e-preserved
loop-e-preserved c =
    let a = c.args in
    let l = c.loop-e in
    let t : l.e-index < length a.sel.now = omega arith in
    let at : List ℕ → Type 0 = λ marks. Marking a.sel.now a.skip a.marks.now marks (l.e-index + 1) in
    elim c.if-e-skip.branch [
      | then-e-skip w ↦ subst at (sym w.marks-is) (marking_next a.sel.now a.skip a.marks.now l.marks l.e-index l.invariant t
          w.if-e-skip.true ((let it : (let a = c.args in let l = c.loop-e in get_or a.sel.now l.e-index 0 < length l.marks) = let a = c.args in
          let l = c.loop-e in let h = c.requires (get_or a.sel.now l.e-index 0) (mem_get_d a.sel.now l.e-index 0 (omega arith)) in
          omega (arith, h, l.invariant.same) in
          it)))
      | else-e-skip w ↦ subst at (sym w.marks-is) (marking_skip a.sel.now a.skip a.marks.now l.marks l.e-index l.invariant t w.if-e-skip.false)
    ]

pub shape_of-marks : goal.shape_of-marks
shape_of-marks c = c.loop-e.invariant.same

pub returns : goal.returns
returns c =
    let args = c.args in
    marking_end args.sel.now args.skip args.marks.now c.loop-e.marks c.loop-e.e-index c.loop-e.invariant (omega arith)
