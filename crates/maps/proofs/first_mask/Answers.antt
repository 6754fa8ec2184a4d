-- `maps::first_mask` meets its contract: m is at most 12, so that the base is made without overflow, and it is not 0. Assumes nothing.
use mathlib.Core.Path.{ap}
use Prim.Native.Nat.{ℕ, ◌+◌, ◌-◌, ◌*◌, ◌/◌, ◌%◌, ◌^◌}
use native.Mathlib.Nat.{div-le_self}
use native.Mathlib.Omega.{arith}
use Rattle.maps.specs.Generators.{first_mask}
use Rattle.maps.proofs.Counting.{low, base_some}
use Rattle.maps.proofs.first_mask.Goals as goal

pub overflow_shl-result : goal.overflow_shl-result
overflow_shl-result c = (low c.args.m c.requires.narrow).shift

pub overflow_sub-result : goal.overflow_sub-result
overflow_sub-result c = (low c.args.m c.requires.narrow).some

pub nonzero_div-result : goal.nonzero_div-result
nonzero_div-result c = base_some c.args.m c.requires.some c.requires.narrow

pub overflow_add-result : goal.overflow_add-result
overflow_add-result c = record { fits = (let f = c.requires.few in omega (arith, div-le_self c.args.j (1 * 2 ^ c.args.m % 2 ^ 64 - 1))) }

pub returns : goal.returns
unfolding first_mask
returns c = ap (λ (x : ℕ). c.args.j / x + 1) (low c.args.m c.requires.narrow).same
