-- `formula_check::check` meets its contract. Assumes nothing.
use mathlib.Core.Path.{ap, ◌∙◌}
use Rattle.kinds.specs.Refusal.{accepted}
use Rattle.formula_check.specs.Formula.{formula_of}
use Rattle.formula_check.specs.Replies.{seen_admission}
use Rattle.formula_check.proofs.laws.Admission.{check_as}
use Rattle.formula_check.proofs.laws.Admitted.{handed_inv, handed_fitting}
use Rattle.formula_check.proofs.laws.Numbers.{check_told}
use Rattle.formula_check.specs.declared.Admission.{Admission}
use Rattle.formula_check.specs.declared.Reply.TheVariants as reply
use Rattle.formula_check.proofs.check.Goals as goal

pub judge-said-requires : goal.judge-said-requires
judge-said-requires c =
    let a = c.args in
    let f = formula_of c.in-Admitted.shape c.in-Admitted.n c.in-Admitted.m a.a.now a.b.now a.rows.now in
    handed_fitting a.number a.p a.q a.r a.k a.a.now a.b.now a.rows.now f
    (handed_inv a.number a.p a.q a.r a.k a.a.now a.b.now a.rows.now f
    (c.admit.ensures ∙ ap (λ (x : Admission). seen_admission x a.a.now a.b.now a.rows.now) c.in-Admitted.is))

pub returns-in-Refused : goal.returns-in-Refused
returns-in-Refused c =
    let a = c.args in
    check_told (reply.Refused c.in-Refused.e)
    (check_as a.number a.p a.q a.r a.k a.a.now a.b.now a.rows.now
    (c.admit.ensures ∙ ap (λ (x : Admission). seen_admission x a.a.now a.b.now a.rows.now) c.in-Refused.is))

pub returns-in-Admitted : goal.returns-in-Admitted
returns-in-Admitted c =
    let a = c.args in
    check_told (reply.Judged c.judge-said.result.verdict c.judge-said.result.adders)
    (check_as a.number a.p a.q a.r a.k a.a.now a.b.now a.rows.now
    (c.admit.ensures ∙ ap (λ (x : Admission). seen_admission x a.a.now a.b.now a.rows.now) c.in-Admitted.is)
    ∙ ap accepted c.judge-said.ensures)
