-- `sieve::sizes::relation_size` meets its contract: a shift is a power of two, and what is compared with it is below it. Assumes nothing.
use native.Mathlib.Omega.{arith}
use Rattle.linear.proofs.laws.Shift.{one_shift}
use Rattle.sieve.specs.heavy_search.laws.Size.{all_small, sum_fits, double_fits, product_fits, bound_fits, size_three, size_four}
use Rattle.sieve.proofs.sizes.relation_size.Goals as goal

pub overflow_add-c : goal.overflow_add-c
overflow_add-c c = sum_fits c.if-all-c.false (all_small c.args.missing c.requires)

pub returns-then-all-c-2 : goal.returns-then-all-c-2
returns-then-all-c-2 c =
    let a = c.args in
    size_three a.k a.n a.missing c.needed-c.result _ c.if-missing-lt4.false c.needed-c.ensures
    (one_shift a.missing (let p = c.requires in omega arith)) c.if-all-c-2.true

pub overflow_add-all : goal.overflow_add-all
overflow_add-all c = double_fits (all_small c.args.missing c.requires)

pub overflow_mul-c : goal.overflow_mul-c
overflow_mul-c c = product_fits c.if-all-c.false (all_small c.args.missing c.requires)

pub overflow_add-c-3 : goal.overflow_add-c-3
overflow_add-c-3 c = bound_fits c.if-all-c.false (all_small c.args.missing c.requires)

pub returns-then-all-c-3 : goal.returns-then-all-c-3
returns-then-all-c-3 c =
    let a = c.args in
    size_four a.k a.n a.missing c.needed-c.result _ c.if-missing-lt4.false
    c.needed-c.ensures (one_shift a.missing (let p = c.requires in omega arith))
    c.if-all-c-3.true
