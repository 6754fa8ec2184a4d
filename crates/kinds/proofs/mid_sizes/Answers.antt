-- `kinds::mid_sizes` meets its contract: what fits is at most 64, so that it can be doubled. Assumes nothing.
use Rattle.std.proofs.Common.{sym, ap, ◌∙◌, ℕ, true≢false, arith}
use Rattle.std.specs.Prelude.{Some}
use Rattle.kinds.specs.laws.Sizes.{Within, within_yes, within_of, mid_is, mid_not}
use Rattle.kinds.proofs.mid_sizes.Goals as goal
use Rattle.kinds.proofs.mid_sizes.Goals.{Else-not-fits, then-r-ne0-via-then-r-ne0, then-r-ne0-via-else-r-ne0+then-not-fits}

-- p and q fit
fitting : (c : Else-not-fits) → Within c.args.p c.args.q
fitting c = within_yes _ _ (sym c.fits.ensures ∙ c.if-not-fits.false)

pub returns-then-r-ne0 : goal.returns-then-r-ne0
returns-then-r-ne0 c =
    let a = c.args in
    elim c.then-r-ne0.branch [
      | then-r-ne0-via-then-r-ne0 w ↦ mid_not a.p a.q a.r (λ T. w.if-r-ne0.true T.third)
      | then-r-ne0-via-else-r-ne0+then-not-fits w ↦
          mid_not a.p a.q a.r (λ T. true≢false (sym (within_of a.p a.q T.fits) ∙ sym w.fits.ensures ∙ w.if-not-fits.true))
    ]

pub overflow_mul-m : goal.overflow_mul-m
overflow_mul-m c = record { fits = omega (arith, (fitting c).first_most) }

pub overflow_sub-m : goal.overflow_sub-m
overflow_sub-m c = omega (arith, (fitting c).first)

pub returns-then-q-m : goal.returns-then-q-m
returns-then-q-m c =
    let a = c.args in
    mid_not a.p a.q a.r (λ T. c.if-q-m.true T.tie)

pub returns : goal.returns
returns c =
    let a = c.args in
    mid_is a.p a.q a.r (record { third = c.if-r-ne0.false; tie = c.if-q-m.false; fits = fitting c.before })
    ∙ ap (λ (m : ℕ). Some (a.p, m, a.p)) c.if-q-m.false
