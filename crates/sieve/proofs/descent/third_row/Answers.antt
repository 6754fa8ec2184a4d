-- `sieve::descent::third_row` meets its contract. Assumes nothing.
use mathlib.Core.Path.{sym, ap}
use mathlib.Core.Bool.{Bool, cond}
use lib.ListN.{get_or}
use borrow.Author.Tests.{lt-ltb, le-ltb}
use Rattle.sieve.proofs.descent.third_row.Goals as goal

pub returns-then-u-n : goal.returns-then-u-n
returns-then-u-n c =
    let a = c.args in
    sym (ap (λ (t : Bool). cond t (get_or a.d.now a.u.g 0) 0) (lt-ltb a.u.h a.n c.if-u-n.true))

pub returns-else-u-n : goal.returns-else-u-n
returns-else-u-n c =
    let a = c.args in
    sym (ap (λ (t : Bool). cond t (get_or a.d.now a.u.g 0) 0) (le-ltb a.u.h a.n c.if-u-n.false))
