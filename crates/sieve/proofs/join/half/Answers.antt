-- `sieve::join::half` meets its contract, by the size of what is left. Assumes nothing.
use Prim.Native.Nat.{◌+◌}
use native.Mathlib.Nat.{mul-div-le}
use native.Mathlib.Omega.{arith}
use Rattle.sieve.specs.join.laws.Join.{half_least, half_most, half_of}
use Rattle.sieve.proofs.join.half.Goals as goal

pub returns-then-left-lt3 : goal.returns-then-left-lt3
returns-then-left-lt3 c = half_least c.args.left

pub returns-then-left-gt509 : goal.returns-then-left-gt509
returns-then-left-gt509 c = half_most c.args.left c.if-left-gt509.true

pub overflow_cast-result : goal.overflow_cast-result
overflow_cast-result c = omega (arith, mul-div-le (c.args.left + 1) 2)

pub returns : goal.returns
returns c = half_of c.args.left
