-- `kinds::square_sizes` meets its contract. Assumes nothing.
use Rattle.std.proofs.Common.{sym, ◌∙◌, true≢false}
use Rattle.kinds.specs.laws.Sizes.{within_yes, within_of, square_is, square_not}
use Rattle.kinds.proofs.square_sizes.Goals as goal
use Rattle.kinds.proofs.square_sizes.Goals.{then-r-ne0-via-then-r-ne0, then-r-ne0-via-else-r-ne0+then-p-q, then-r-ne0-via-else-r-ne0+else-p-q+then-not-fits}

pub returns-then-r-ne0 : goal.returns-then-r-ne0
returns-then-r-ne0 c =
    let a = c.args in
    elim c.then-r-ne0.branch [
      | then-r-ne0-via-then-r-ne0 w ↦ square_not a.p a.q a.r (λ T. w.if-r-ne0.true T.third)
      | then-r-ne0-via-else-r-ne0+then-p-q w ↦ square_not a.p a.q a.r (λ T. w.if-p-q.true T.tie)
      | then-r-ne0-via-else-r-ne0+else-p-q+then-not-fits w ↦
          square_not a.p a.q a.r (λ T. true≢false (sym (within_of a.p a.q T.fits) ∙ sym w.fits.ensures ∙ w.if-not-fits.true))
    ]

pub returns : goal.returns
returns c =
    let a = c.args in
    square_is a.p a.q a.r
    (record { third = c.if-r-ne0.false; tie = c.if-p-q.false; fits = within_yes a.p a.q (sym c.fits.ensures ∙ c.if-not-fits.false) })
