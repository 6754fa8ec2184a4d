-- `words::wider` meets its contract. Assumes nothing.
use Rattle.std.proofs.Common.{◌≤◌, ◌^◌, arith, lt-ltb, le-ltb, pow_mono}
use Rattle.words.specs.laws.Masks.{shift_none}
use Rattle.words.proofs.wider.Goals as goal

pub returns-then-n-lt64 : goal.returns-then-n-lt64
returns-then-n-lt64 c = rw (c.if-w.false, shift_none)

pub returns-else-n-lt64 : goal.returns-else-n-lt64
returns-else-n-lt64 c =
    let h : 2 ^ 64 ≤ 2 ^ c.args.n = pow_mono {i = 64} (omega arith) in
    rw (c.if-w.false, lt-ltb c.args.x (2 ^ c.args.n) (omega arith), le-ltb c.args.n 64 c.if-n-lt64.false)
