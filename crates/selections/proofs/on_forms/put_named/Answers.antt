-- `selections::on_forms::put_named` meets its contract: of the numbers looked at those named are written. Assumes nothing.
use native.Mathlib.Omega.{arith}
use mathlib.Core.Path.{sym, subst, ◌∙◌}
use mathlib.Core.List.{List}
use lib.ListN.{length}
use Prim.Native.Nat.{ℕ, ◌+◌, ◌<◌}
use Rattle.selections.proofs.laws.of_on_forms.Naming.{Naming, naming_start, naming_skip, naming_inside, naming_next, naming_end}
use Rattle.selections.proofs.on_forms.put_named.Goals as goal
use Rattle.selections.proofs.on_forms.put_named.Goals.{else-coordinate, then-coordinate}

pub loop-i-init : goal.loop-i-init
loop-i-init c = let a = c.args in naming_start a.numbers.now a.mask a.out.now

pub offset_bounds-out-m : goal.offset_bounds-out-m
offset_bounds-out-m c = omega (
  arith,
  (let l = c.loop-i in
      naming_inside c.args.numbers.now c.args.mask c.args.out.now l.out l.m l.i l.invariant (omega arith) (sym c.coordinate.ensures ∙
      c.if-coordinate.true) c.requires),
  c.loop-i.invariant.same,
)

pub bounds-out-m : goal.bounds-out-m
bounds-out-m c = (let l = c.loop-i in
    naming_inside c.args.numbers.now c.args.mask c.args.out.now l.out l.m l.i l.invariant (omega arith) (sym c.coordinate.ensures ∙
    c.if-coordinate.true) c.requires)

pub overflow_add-m : goal.overflow_add-m
overflow_add-m c = omega (
  arith,
  (let l = c.loop-i in
      naming_inside c.args.numbers.now c.args.mask c.args.out.now l.out l.m l.i l.invariant (omega arith) (sym c.coordinate.ensures ∙
      c.if-coordinate.true) c.requires),
  c.loop-i.invariant.same,
)

pub loop-i-preserved : goal.loop-i-preserved
loop-i-preserved c =
    let l = c.loop-i in
    let a = c.args in
    let t : l.i < length a.numbers.now = omega arith in
    let q = c.coordinate.ensures in
    let at : List ℕ → ℕ → Type 0 = λ out m. Naming a.numbers.now a.mask a.out.now out m (l.i + 1) in
    elim c.if-coordinate.branch [
      | then-coordinate w ↦ subst (λ (m : ℕ). at c.if-coordinate.out m) (sym w.m-is)
          (subst (λ (o : List ℕ). at o (l.m + 1)) (sym w.out-is)
          (naming_next a.numbers.now a.mask a.out.now l.out l.m l.i l.invariant t (sym q ∙ w.if-coordinate.true) c.requires))
      | else-coordinate w ↦ subst (λ (m : ℕ). at c.if-coordinate.out m) (sym w.m-is)
          (subst (λ (o : List ℕ). at o l.m) (sym w.out-is)
          (naming_skip a.numbers.now a.mask a.out.now l.out l.m l.i l.invariant t (sym q ∙ w.if-coordinate.false)))
    ]

pub shape_of-out : goal.shape_of-out
shape_of-out c = c.loop-i.invariant.same

pub returns : goal.returns
returns c =
    let args = c.args in
    naming_end args.numbers.now args.mask args.out.now c.loop-i.out c.loop-i.m c.loop-i.i c.loop-i.invariant
    (omega arith)
