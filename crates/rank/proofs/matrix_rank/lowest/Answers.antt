-- `rank::matrix_rank::lowest` meets its contract. Assumes nothing.
use native.Mathlib.Omega.{arith}
use Prim.Native.Nat.{ℕ}
use lib.Pow.{pow_pos}
use Rattle.linear.proofs.laws.Shift.{one_shift}
use Rattle.rank.proofs.laws.of_matrix_rank.Loops.{lowest}
use Rattle.rank.proofs.matrix_rank.lowest.Goals as goal

pub overflow_sub-result : goal.overflow_sub-result
overflow_sub-result c = let w : ℕ = c.args.width in omega (arith, one_shift w c.requires, pow_pos w)

pub returns : goal.returns
returns c = lowest c.args.width c.args.rest c.requires
