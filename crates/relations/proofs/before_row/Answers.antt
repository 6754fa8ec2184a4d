-- `relations::before_row` meets its contract, by the test that each return stands behind. Assumes nothing.
use native.Mathlib.Omega.{arith}
use Rattle.relations.proofs.before_row.Goals as goal

pub returns-then-lines : goal.returns-then-lines
returns-then-lines c =
    let p = c.requires in
    record { high = omega arith; from = λ l. omega arith; before = λ h W l. let e = W c.if-lines.true in omega (arith, p.0) }
