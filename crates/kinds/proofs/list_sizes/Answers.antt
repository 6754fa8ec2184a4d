-- `kinds::list_sizes` meets its contract. Assumes nothing.
use Rattle.std.proofs.Common.{sym, ◌∙◌, true≢false, arith}
use Rattle.kinds.specs.laws.Sizes.{list_is, list_not}
use Rattle.kinds.proofs.list_sizes.Goals as goal
use Rattle.kinds.proofs.list_sizes.Goals.{then-q-eq0-via-then-q-eq0, then-q-eq0-via-else-q-eq0+then-not-fits}
use Rattle.kinds.proofs.list_sizes.Goals.{then-q-eq0-via-else-q-eq0+else-not-fits+then-not-fits-2}

pub returns-then-q-eq0 : goal.returns-then-q-eq0
returns-then-q-eq0 c =
    let a = c.args in
    elim c.then-q-eq0.branch [
      | then-q-eq0-via-then-q-eq0 w ↦ list_not a.p a.q a.r (λ x b d. let e = w.if-q-eq0.true in omega arith)
      | then-q-eq0-via-else-q-eq0+then-not-fits w ↦
          list_not a.p a.q a.r (λ x b d. true≢false (sym b ∙ sym w.fits.ensures ∙ w.if-not-fits.true))
      | then-q-eq0-via-else-q-eq0+else-not-fits+then-not-fits-2 w ↦
          list_not a.p a.q a.r (λ x b d. true≢false (sym d ∙ sym w.fits-else-not-fits.ensures ∙ w.if-not-fits-2.true))
    ]

pub returns : goal.returns
returns c =
    let a = c.args in
    list_is a.p a.q a.r (omega arith) (sym c.fits.ensures ∙ c.if-not-fits.false) (sym c.fits-else-not-fits.ensures ∙ c.if-not-fits-2.false)
