-- `sieve::join::third` meets its contract, by the test that each return stands behind. Assumes nothing.
use mathlib.Core.Path.{sym, ◌∙◌}
use mathlib.Core.Logic.{inl}
use borrow.Author.Tests.{ltb-true}
use native.Mathlib.Omega.{arith}
use Rattle.weights.specs.Table.{weight_of}
use Rattle.sieve.specs.join.laws.Join.{third_sum}
use Rattle.sieve.proofs.join.third.Goals as goal
use Rattle.sieve.proofs.join.third.Goals.{then-y-x, else-y-x}

pub offset_bounds-d-i : goal.offset_bounds-d-i
offset_bounds-d-i c = omega (arith, c.requires.inside, c.requires.few, c.requires.all)

pub bounds-d-i : goal.bounds-d-i
bounds-d-i c = omega (arith, c.requires.inside, c.requires.few, c.requires.all)

pub bounds-w-i : goal.bounds-w-i
bounds-w-i c = omega (arith, c.requires.inside, c.requires.few, c.requires.all)

pub weight_of-requires : goal.weight_of-requires
weight_of-requires c = (c.requires.table, c.requires.few, c.requires.all)

pub overflow_add-w : goal.overflow_add-w
overflow_add-w c = omega (arith, c.type_inv.w c.args.i, c.weight_of.ensures.1)

pub returns-then-w-i : goal.returns-then-w-i
returns-then-w-i c =
    let a = c.args in
    elim c.if-y-x.branch [
      | then-y-x w ↦ λ e. inl w.if-y-x.true
      | else-y-x w ↦
          λ e. third_sum a.d.now a.i a.x a.left a.w.now (weight_of a.slots.now a.d.now a.w.now) w.weight_of.result w.weight_of.ensures.0
          (ltb-true _ _ (sym w.value-is ∙ c.if-w-i.true))
    ]

pub returns-else-w-i : goal.returns-else-w-i
returns-else-w-i c = λ e. absurd (omega arith)
