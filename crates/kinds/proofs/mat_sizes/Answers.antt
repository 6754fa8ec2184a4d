-- `kinds::mat_sizes` meets its contract. Assumes nothing.
use Rattle.std.proofs.Common.{sym, ◌∙◌, ◌*◌, true≢false, arith}
use Rattle.kinds.specs.laws.Sizes.{within_yes, within_of, mat_is, mat_not, mat_within}
use Rattle.kinds.proofs.mat_sizes.Goals as goal
use Rattle.kinds.proofs.mat_sizes.Goals.{then-not-fits-via-then-not-fits, then-not-fits-via-else-not-fits+then-not-fits-2}

pub returns-then-not-fits : goal.returns-then-not-fits
returns-then-not-fits c =
    let a = c.args in
    elim c.then-not-fits.branch [
      | then-not-fits-via-then-not-fits w ↦
          mat_not a.p a.q a.r (λ M. true≢false (sym (within_of a.p a.q M.left) ∙ sym c.fits.ensures ∙ w.if-not-fits.true))
      | then-not-fits-via-else-not-fits+then-not-fits-2 w ↦
          mat_not a.p a.q a.r (λ M. true≢false (sym (within_of a.q a.r M.right) ∙ sym w.fits-else-not-fits.ensures ∙ w.if-not-fits-2.true))
    ]

pub overflow_mul-n : goal.overflow_mul-n
overflow_mul-n c = let f = within_yes c.args.p c.args.q (sym c.fits.ensures ∙ c.if-not-fits.false) in omega arith

pub overflow_mul-m : goal.overflow_mul-m
overflow_mul-m c = let f = within_yes c.args.q c.args.r (sym c.fits-else-not-fits.ensures ∙ c.if-not-fits-2.false) in omega arith

pub returns-then-not-fits-3 : goal.returns-then-not-fits-3
returns-then-not-fits-3 c =
    let a = c.args in
    mat_not a.p a.q a.r (λ M. true≢false (sym (within_of (a.p * a.q) (a.q * a.r) M.whole) ∙ sym c.fits-2.ensures ∙ c.if-not-fits-3.true))

pub overflow_mul-result : goal.overflow_mul-result
overflow_mul-result c =
    let a = c.args in
    let f = mat_within a.p a.q a.r (sym c.fits-2.ensures ∙ c.if-not-fits-3.false) in omega (arith, f.outputs.product)

pub returns : goal.returns
returns c =
    let a = c.args in
    mat_is a.p a.q a.r (sym c.fits-2.ensures ∙ c.if-not-fits-3.false)
