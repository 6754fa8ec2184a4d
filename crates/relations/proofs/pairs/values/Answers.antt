-- `relations::pairs::values` meets its contract: the numbers so far have their values. Assumes nothing.
use mathlib.Core.Path.{sym, ◌∙◌}
use mathlib.Core.Logic.{◌⊎◌, ◌≢◌, inl, inr}
use Prim.Native.Nat.{◌<◌}
use native.Mathlib.Omega.{arith}
use lib.ListN.{length, get_or}
use Rattle.relations.specs.pairs.laws.Values.{valuing_start, valuing_skip, valuing_put, valuing_end}
use Rattle.relations.proofs.pairs.values.Goals as goal
use Rattle.relations.proofs.pairs.values.Goals.{then-w-i-eq1+then-gone-i-eq0, else-w-i-eq1}
use Rattle.relations.proofs.pairs.values.Goals.{else-w-i-eq1-via-then-w-i-eq1+else-gone-i-eq0, else-w-i-eq1-via-else-w-i-eq1}

pub loop-i-init : goal.loop-i-init
loop-i-init c =
    let a = c.args in
    valuing_start a.d.now a.start a.w.now a.gone.now a.v.now c.requires.0 c.requires.4

pub loop-i-preserved : goal.loop-i-preserved
loop-i-preserved c =
    let a = c.args in
    let l = c.loop-i in
    let t : l.i < length a.d.now = omega arith in
    elim c.if-w-i-eq1.branch [
      | then-w-i-eq1+then-gone-i-eq0 w ↦
          rw (w.v-is) (valuing_put a.d.now a.start a.w.now a.gone.now l.i l.v l.invariant t c.requires.1)
      | else-w-i-eq1 w ↦
          let why : (get_or a.w.now l.i 0 ≢ 1) ⊎ (get_or a.gone.now l.i 0 ≢ 0) =
          elim w.else-w-i-eq1.branch [
            | else-w-i-eq1-via-then-w-i-eq1+else-gone-i-eq0 k ↦ inr k.if-gone-i-eq0.false
            | else-w-i-eq1-via-else-w-i-eq1 k ↦ inl k.if-w-i-eq1.false
          ] in
          rw (w.v-is) (valuing_skip a.d.now a.start a.w.now a.gone.now l.i l.v l.invariant t why)
    ]

pub shape_of-v : goal.shape_of-v
shape_of-v c =
    let a = c.args in
    let p = c.requires in
    c.loop-i.invariant.whole ∙ sym (valuing_start a.d.now a.start a.w.now a.gone.now a.v.now p.0 p.4).whole

pub returns : goal.returns
returns c =
    let a = c.args in
    let l = c.loop-i in
    valuing_end a.d.now a.start a.w.now a.gone.now l.i l.v l.invariant (omega arith)
