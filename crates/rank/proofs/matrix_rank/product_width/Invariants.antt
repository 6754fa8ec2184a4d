-- `rank::matrix_rank::product_width` meets its contract. Assumes nothing.
use Prim.Native.Nat.{◌≤◌}
use Rattle.rank.proofs.matrix_rank.product_width.Given as goal

abbrev pub invariant-loop-w : goal.invariant-loop-w
invariant-loop-w l = 2 ≤ l.w
