-- `formula_check::judge` meets its contract. Assumes nothing.
use mathlib.Core.Path.{ap₂}
use Rattle.std.specs.Prelude.{Option}
use Prim.Native.Nat.{ℕ}
use native.Mathlib.Omega.{arith}
use lib.ListN.{length}
use Rattle.kinds.specs.laws.Sizes.{sizes_bounds}
use Rattle.formula_check.proofs.judge.Goals as goal

pub adders_of-requires : goal.adders_of-requires
adders_of-requires c =
    let args = c.args in
    let pre = c.requires in
    (sizes_bounds args.shape (args.n, args.m, length args.rows.now) pre.sized).most_outputs

pub returns : goal.returns
returns c =
    ap₂ (λ (v : Option ℕ) (w : ℕ). (v, w)) c.verdict_on.ensures
    (omega (arith, c.side_adders.ensures.0, c.side_adders-2.ensures.0, c.adders_of.ensures.0))
