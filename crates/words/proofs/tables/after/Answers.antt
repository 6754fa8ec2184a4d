-- `words::tables::after` meets its contract, by its test. Assumes nothing.
use mathlib.Core.Path.{sym, ap}
use mathlib.Core.Bool.{Bool, cond}
use Prim.Native.Nat.{◌+◌}
use borrow.Author.Tests.{eq-eqb, ne_eqb}
use Rattle.words.specs.tables.Table.{following}
use Rattle.words.proofs.tables.after.Goals as goal

pub returns-then-q-n : goal.returns-then-q-n
unfolding following
returns-then-q-n c = let a = c.args in sym (ap (λ (t : Bool). cond t 0 (a.q + 1)) (eq-eqb (a.q + 1) a.n c.if-q-n.true))

pub returns-else-q-n : goal.returns-else-q-n
unfolding following
returns-else-q-n c = let a = c.args in sym (ap (λ (t : Bool). cond t 0 (a.q + 1)) (ne_eqb (a.q + 1) a.n c.if-q-n.false))
