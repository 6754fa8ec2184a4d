-- `relations::rows::next_filled` meets its contract: no number so far has a bucket with a pair. Assumes nothing.
use mathlib.Core.Path.{◌≡◌, sym, ap, subst, ◌∙◌}
use Prim.Native.Nat.{ℕ, ◌+◌}
use Rattle.relations.specs.rows.Rows.{NextFilled}
use native.Mathlib.Omega.{arith}
use lib.ListN.{get_or}
use Rattle.relations.specs.rows.laws.Filled.{filling_start, filling_bare, filling_empty, filling_found, filling_end, filling_last, filling_none}
use Rattle.relations.proofs.rows.next_filled.Goals as goal
use Rattle.relations.proofs.rows.next_filled.Goals.{else-y-ne0-via-then-y-ne0+else-heads-bucket-ne0, else-y-ne0-via-else-y-ne0}
use Rattle.relations.proofs.rows.next_filled.Goals.{else-from-n-via-then-from-n+else-head_at-ne0, else-from-n-via-else-from-n}

pub loop-h-init : goal.loop-h-init
loop-h-init c = let a = c.args in filling_start a.v.now a.n a.heads.now a.x a.from c.requires.2

pub offset_bounds-v-h : goal.offset_bounds-v-h
offset_bounds-v-h c = omega (arith, c.requires.0.few)

pub bounds-v-h : goal.bounds-v-h
bounds-v-h c =
    let pre = c.requires in
    omega (arith, c.loop-h-test.true, pre.0.few, pre.0.all)

pub offset_bounds-heads-bucket : goal.offset_bounds-heads-bucket
offset_bounds-heads-bucket c = omega (arith, c.bucket.ensures.1)

pub bounds-heads-bucket : goal.bounds-heads-bucket
bounds-heads-bucket c = omega (arith, c.bucket.ensures.1, c.requires.1)

pub returns-then-heads-bucket-ne0 : goal.returns-then-heads-bucket-ne0
returns-then-heads-bucket-ne0 c =
    let a = c.args in
    let l = c.loop-h in
    filling_found a.v.now a.n a.heads.now a.x a.from l.h l.invariant
    (λ z. c.if-heads-bucket-ne0.true (ap (λ (q : ℕ). get_or a.heads.now q 0) c.bucket.ensures.0 ∙ z))

pub loop-h-preserved : goal.loop-h-preserved
loop-h-preserved c =
    let a = c.args in
    let l = c.loop-h in
    elim c.else-y-ne0.branch [
      | else-y-ne0-via-then-y-ne0+else-heads-bucket-ne0 w ↦
          filling_empty a.v.now a.n a.heads.now a.x a.from l.h l.invariant (omega arith)
          (sym (ap (λ (q : ℕ). get_or a.heads.now q 0) w.bucket.ensures.0) ∙ omega (arith, w.if-heads-bucket-ne0.false))
      | else-y-ne0-via-else-y-ne0 w ↦
          filling_bare a.v.now a.n a.heads.now a.x a.from l.h l.invariant (omega arith) (omega (arith, w.if-y-ne0.false))
    ]

pub head_at-requires : goal.head_at-requires
head_at-requires c = (c.requires.0, c.requires.1)

pub returns-then-head_at-ne0 : goal.returns-then-head_at-ne0
returns-then-head_at-ne0 c =
    let a = c.args in
    let l = c.loop-h in
    filling_last a.v.now a.n a.heads.now a.x a.from l.h l.invariant (omega arith) (omega arith)
    (λ z. c.if-head_at-ne0.true (c.head_at.ensures ∙ z))

pub overflow_add-result : goal.overflow_add-result
overflow_add-result c = omega (arith, c.requires.0.few)

pub returns : goal.returns
returns c =
    let a = c.args in
    let l = c.loop-h in
    elim c.else-from-n.branch [
      | else-from-n-via-then-from-n+else-head_at-ne0 w ↦
          filling_none a.v.now a.n a.heads.now a.x a.from l.h l.invariant (omega arith) (omega arith)
          (sym w.head_at.ensures ∙ omega (arith, w.if-head_at-ne0.false))
      | else-from-n-via-else-from-n w ↦
          let e : l.h ≡ a.n + 1 = omega (arith, c.requires.2) in
          subst (NextFilled a.v.now a.n a.heads.now a.x a.from) e
          (filling_end a.v.now a.n a.heads.now a.x a.from l.h l.invariant (omega arith))
    ]
