-- `printing::field_lists::put_inner` meets its contract. Assumes nothing.
use Rattle.std.specs.Prelude.{◌≡◌, ◌-◌, length, get_or, drop}
use Rattle.std.proofs.Common.{arith, length-take}
use Rattle.printing.specs.laws.Print.{printed_fits}
use Rattle.printing.specs.field_lists.laws.Inner.{inner_none, inner_some}
use Rattle.printing.proofs.field_lists.put_inner.Goals as goal

pub returns-in_default : goal.returns-in_default
returns-in_default c =
    let e : length c.args.xs.now ≡ 0 = omega arith in
    inner_none c.args.xs.now c.args.base c.args.most c.args.at _ c.args.out.now _ e c.put_bytes.ensures

pub put_spaced-requires : goal.put_spaced-requires
put_spaced-requires c =
    let args = c.args in
    let pre = c.requires in
    record {
      some = pre.some;
      small = pre.small;
      few = pre.few;
      place = omega (arith, pre.few, pre.place, c.put_number-a.ensures.0, printed_fits args.base args.most (get_or args.xs.now 0 0));
      short = omega (arith, pre.short, length-take (length args.xs.now - 1) (drop 1 args.xs.now));
    }

pub returns : goal.returns
returns c =
    let ne : (length c.args.xs.now ≡ 0 → ⊥) = omega arith in
    inner_some c.args.xs.now c.args.base c.args.most c.args.at _ _ c.args.out.now _ _ ne c.requires.few c.put_number-a.ensures c.put_spaced.ensures
