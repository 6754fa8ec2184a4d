-- `sieve::heavy_search::light` meets its contract: a shift is a power of two, and a quotient times its divisor is at most what is divided. Assumes nothing.
use native.Mathlib.Omega.{arith}
use lib.Pow.{pow_pos}
use Rattle.linear.proofs.laws.Shift.{one_shift}
use Rattle.sieve.specs.heavy_search.laws.Light.{points_shift, points_some, light_none, light_most}
use Rattle.sieve.proofs.heavy_search.light.Goals as goal

pub returns-then-k-n : goal.returns-then-k-n
returns-then-k-n c = let a = c.args in light_none a.k a.missing a.n

pub overflow_sub-result-3 : goal.overflow_sub-result-3
overflow_sub-result-3 c = omega (arith, one_shift c.args.missing (omega arith), pow_pos c.args.missing)

pub nonzero_div-result : goal.nonzero_div-result
nonzero_div-result c = omega (arith, points_shift c.args.missing c.requires.0, points_some c.args.missing c.requires.1)

pub returns : goal.returns
returns c = let a = c.args in light_most a.k a.missing a.n _ (omega arith) (points_shift a.missing c.requires.0)
