-- `kinds::poly_sizes` meets its contract. Assumes nothing.
use Rattle.std.proofs.Common.{sym, ◌∙◌, true≢false, arith}
use Rattle.kinds.specs.laws.Sizes.{Within, within_yes, poly_is, poly_not}
use Rattle.kinds.proofs.poly_sizes.Goals as goal
use Rattle.kinds.proofs.poly_sizes.Goals.{Else-not-fits, then-r-ne0-via-then-r-ne0, then-r-ne0-via-else-r-ne0+then-not-fits}

-- p and q fit
fitting : (c : Else-not-fits) → Within c.args.p c.args.q
fitting c = within_yes _ _ (sym c.fits.ensures ∙ c.if-not-fits.false)

pub returns-then-r-ne0 : goal.returns-then-r-ne0
returns-then-r-ne0 c =
    elim c.then-r-ne0.branch [
      | then-r-ne0-via-then-r-ne0 w ↦ poly_not c.args.p c.args.q c.args.r (λ a b. w.if-r-ne0.true a)
      | then-r-ne0-via-else-r-ne0+then-not-fits w ↦
          poly_not c.args.p c.args.q c.args.r (λ a b. true≢false (sym b ∙ sym w.fits.ensures ∙ w.if-not-fits.true))
    ]

pub overflow_add-result : goal.overflow_add-result
overflow_add-result c = let f = fitting c in omega arith

pub overflow_sub-result : goal.overflow_sub-result
overflow_sub-result c = let f = fitting c in omega arith

pub returns : goal.returns
returns c = poly_is c.args.p c.args.q c.args.r c.if-r-ne0.false (sym c.fits.ensures ∙ c.if-not-fits.false)
