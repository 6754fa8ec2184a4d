-- `printing::put_number` meets its contract. By induction on the digits that are left. Assumes nothing.
use Prim.Native.Nat.{◌-◌, ◌/◌}
use native.Mathlib.Omega.{arith}
use Rattle.printing.specs.laws.Print.{print_none, print_one, print_more, printed_fits}
use Rattle.printing.proofs.+put_number.Goals as goal

pub returns-then-f-eq0 : goal.returns-then-f-eq0
returns-then-f-eq0 t c = print_none _ _ _ _ _ c.if-f-eq0.true

pub returns-then-n-base : goal.returns-then-n-base
returns-then-n-base t c = print_one _ _ _ _ _ _ _ c.if-f-eq0.false c.if-n-base.true c.digit_byte.ensures c.put_byte.ensures

pub overflow_add-result-2 : goal.overflow_add-result-2
overflow_add-result-2 t c =
    omega (arith, c.put_number-e.ensures.0, printed_fits c.args.base (c.args.f - 1) (c.args.n / c.args.base))

pub returns : goal.returns
returns t c =
    print_more _ _ _ _ _ _ _ _ _ c.if-f-eq0.false c.if-n-base.false c.put_number-e.ensures.0 c.put_number-e.ensures.1 c.digit_byte-2.ensures c.put_byte-2.ensures
