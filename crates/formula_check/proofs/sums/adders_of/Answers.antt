-- `formula_check::sums::adders_of` meets its contract. Assumes nothing.
use Rattle.std.proofs.Common.{◌≡◌, ◌+◌, ◌-◌, get_or, arith}
use Rattle.formula_check.specs.sums.Sums.{adders_of}
use Rattle.forms.specs.Weight.{weight}
use Rattle.forms.specs.laws.Weight.{weight_most}
use Rattle.formula_check.proofs.laws.of_sums.Loops.{adders_next, adders_end}
use Rattle.formula_check.proofs.sums.adders_of.Goals as goal

pub overflow_add-sum : goal.overflow_add-sum
overflow_add-sum c = record { fits = omega (arith, weight_most 64 (get_or c.args.masks.now c.loop-mask.mask-index 0)) }

pub loop-mask-preserved : goal.loop-mask-preserved
loop-mask-preserved c =
    let xs = c.args.masks.now in
    let l = c.loop-mask in
    let i = l.mask-index in
    let m = weight_most 64 (get_or xs i 0) in
    let e : l.sum + c.saturating_sub-sum.result ≡ l.sum + (weight 64 (get_or xs i 0) - 1) = omega arith in
    (adders_next xs i l.sum _ (adders_of xs) (omega arith) l.invariant.0 e, omega arith)

pub returns : goal.returns
returns c =
    let l = c.loop-mask in
    (adders_end c.args.masks.now l.mask-index l.sum (adders_of c.args.masks.now) (omega arith) l.invariant.0, omega arith)
