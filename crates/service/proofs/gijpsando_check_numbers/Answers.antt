-- `service::gijpsando_check_numbers` meets its contract. Assumes nothing.
use mathlib.Core.Path.{◌≡◌, sym, ap, ◌∙◌}
use Rattle.std.specs.Prelude.{Option, None, Some}
use Prim.Native.Nat.{ℕ}
use native.Mathlib.Omega.{arith}
use Rattle.kinds.specs.Refusal.{Answer, refused, accepted}
use Rattle.formula_check.specs.Formula.{check}
use Rattle.formula_check.specs.Replies.{seen_reply}
use Rattle.formula_check.specs.verdicts.Verdicts.{seen_verdict}
use Rattle.service.specs.Service.{numbers_reply, numbers_lent}
use Rattle.service.specs.laws.Numbers.{numbers_short, numbers_whole}
use Rattle.service.proofs.gijpsando_check_numbers.Goals as goal

pub returns-then-reply-lt3 : goal.returns-then-reply-lt3
returns-then-reply-lt3 c =
    let args = c.args in
    let the-check = c.check in
    let e : check args.kind args.p args.q args.r args.k args.a.now args.b.now args.rows.now ≡ accepted
    ((seen_verdict c.in-Judged.v), c.in-Judged.w) = the-check.ensures.0 ∙ ap seen_reply c.in-Judged.is in
    let n = numbers_short (seen_verdict c.in-Judged.v) c.in-Judged.w args.reply.now (omega arith) in (
      n.0 ∙ ap (λ (x : Answer (Option ℕ × ℕ)). numbers_reply x args.reply.now) (sym e),
      n.1 ∙ ap
          (λ (x : Answer (Option ℕ × ℕ)). numbers_lent x args.reply.now) (sym e),
    )

pub returns-in-Refused : goal.returns-in-Refused
returns-in-Refused c =
    let args = c.args in
    let the-check = c.check in
    let e : check args.kind args.p args.q args.r args.k args.a.now args.b.now args.rows.now ≡ refused
    c.in-Refused.e = the-check.ensures.0 ∙ ap seen_reply c.in-Refused.is in (
      ap (λ (x : Answer (Option ℕ × ℕ)). numbers_reply x args.reply.now) (sym e),
      ap
          (λ (x : Answer (Option ℕ × ℕ)). numbers_lent x args.reply.now) (sym e),
    )

pub returns-in-Right : goal.returns-in-Right
returns-in-Right c =
    let args = c.args in
    let the-check = c.check in
    let e : check args.kind args.p args.q args.r args.k args.a.now args.b.now args.rows.now ≡ accepted
    (None, c.in-Judged.w) = the-check.ensures.0 ∙ ap seen_reply c.in-Judged.is ∙ ap
    (λ (x : Option ℕ). accepted (x, c.in-Judged.w)) (ap seen_verdict c.in-Right.is) in
    let n = numbers_whole None c.in-Judged.w args.reply.now (omega arith) in (
      n.0 ∙ ap (λ (x : Answer (Option ℕ × ℕ)). numbers_reply x args.reply.now) (sym e),
      c.put_three.ensures ∙ n.1 ∙ ap
          (λ (x : Answer (Option ℕ × ℕ)). numbers_lent x args.reply.now) (sym e),
    )

pub returns-in-Wrong : goal.returns-in-Wrong
returns-in-Wrong c =
    let args = c.args in
    let the-check = c.check in
    let e : check args.kind args.p args.q args.r args.k args.a.now args.b.now args.rows.now ≡ accepted
    (Some c.in-Wrong.t, c.in-Judged.w) = the-check.ensures.0 ∙ ap seen_reply c.in-Judged.is ∙ ap
    (λ (x : Option ℕ). accepted (x, c.in-Judged.w)) (ap seen_verdict c.in-Wrong.is) in
    let n = numbers_whole (Some c.in-Wrong.t) c.in-Judged.w args.reply.now (omega arith) in (
      n.0 ∙ ap (λ (x : Answer (Option ℕ × ℕ)). numbers_reply x args.reply.now) (sym e),
      c.put_three-in-Wrong.ensures ∙ n.1 ∙ ap
          (λ (x : Answer (Option ℕ × ℕ)). numbers_lent x args.reply.now) (sym e),
    )
