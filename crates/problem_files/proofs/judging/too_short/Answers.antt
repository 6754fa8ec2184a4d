-- `problem_files::judging::too_short` meets its contract. Assumes nothing.
use Prim.Native.Nat.{ℕ}
use mathlib.Core.Path.{sym, ap}
use lib.Dec.{ltb}
use native.Mathlib.Omega.{arith}
use Rattle.problem_files.proofs.laws.of_judging.Judging.{short_first, short_second, short_third}
use Rattle.problem_files.proofs.judging.too_short.Goals as goal

pub returns-then-first-n : goal.returns-then-first-n
returns-then-first-n c =
    let args = c.args in
    short_first args.shape args.first args.second args.third (omega (arith, c.handed-n.ensures, c.if-first-n.true))

pub returns-then-second-handed : goal.returns-then-second-handed
returns-then-second-handed c =
    let args = c.args in
    let handed = c.handed-n in
    short_second args.shape args.first args.second args.third (omega (arith, handed.ensures, c.if-first-n.false))
    (omega (arith, c.handed.ensures, c.if-second-handed.true))

pub returns : goal.returns
returns c =
    let args = c.args in
    let handed = c.handed-n in
    short_third args.shape args.first args.second args.third (omega (arith, handed.ensures, c.if-first-n.false))
    (omega (arith, c.handed.ensures, c.if-second-handed.false)) (ap (λ (n : ℕ). ltb args.third n) (sym handed.ensures))
