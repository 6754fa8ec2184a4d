-- `turning::turn` meets its contract. Assumes nothing.
use mathlib.Core.Path.{◌≡◌, refl, sym, ap, ap₂, ◌∙◌}
use Rattle.std.specs.Prelude.{Option}
use mathlib.Core.List.{List}
use Prim.Native.Nat.{ℕ}
use native.Mathlib.Omega.{arith}
use lib.ListN.{length, length-map}
use Rattle.kinds.specs.Kinds.{kind_numbered}
use Rattle.kinds.specs.Refusal.{Answer, accepted, refused_by, follow}
use Rattle.kinds.specs.laws.Refusal.{by_some, by_none}
use Rattle.kinds.specs.laws.Sizes.{sizes_bounds}
use Rattle.kinds.specs.declared.Kind.{Kind}
use Rattle.kinds.specs.declared.Shape.{Shape}
use Rattle.formula_check.specs.Formula.{Admitted, formula_of, admit, lists_handed}
use Rattle.formula_check.specs.Replies.{Fitting}
use Rattle.formula_check.proofs.laws.Admitted.{HandedSo, handed_inv, handed_fitting}
use Rattle.turning.specs.Turning.{reversed, turned, turnable, turned_into, turning}
use Rattle.turning.specs.Lent.{turned_reply}
use Rattle.turning.proofs.laws.Refusals.{lent_refused}
use Rattle.turning.proofs.laws.Replies.{fitting_words, turning_unfit, turning_else, turned_told}
use Rattle.turning.specs.declared.Turned.TheVariants as reply
use Rattle.turning.proofs.turn.Goals as goal

-- what is left to do, and what an admitted formula is: over the values
module _ (number p q r k : ℕ) (a b rows : List ℕ) (u v w e : ℕ) (T : turnable (kind_numbered number) p q r ≡ refused_by e tt) (z : e ≡ 0) where
  goes_on : {o : Answer Admitted} → admit (kind_numbered number) p q r k (lists_handed k a b rows) ≡ o
      → turning number p q r k a b rows u v w ≡ follow o (turned_into u v w)
  goes_on = turning_else number p q r k a b rows u v w e T z

handed : (number p q r k : ℕ) (a b rows : List ℕ) (f : Admitted) → admit (kind_numbered number) p q r k (lists_handed k a b rows) ≡ accepted f
    → HandedSo number p q r k a b rows f
handed number p q r k a b rows f = handed_inv number p q r k a b rows f

fits : (number p q r k : ℕ) (a b rows : List ℕ) (f : Admitted) → admit (kind_numbered number) p q r k (lists_handed k a b rows) ≡ accepted f
    → Fitting f.shape f.n f.m f.firsts f.seconds f.rows
fits number p q r k a b rows f A = handed_fitting number p q r k a b rows f (handed_inv number p q r k a b rows f A)

pub returns-then-unfit-ne0 : goal.returns-then-unfit-ne0
returns-then-unfit-ne0 c =
    let a = c.args in
    let e = c.turn_refusal-unfit.result in
    turned_told (reply.Refused e)
    (turning_unfit a.number a.p a.q a.r a.k a.a.now a.b.now a.rows.now (length a.u.now) (length a.v.now)
    (length a.w.now) e
    (ap (λ (o : Option Kind). turnable o a.p a.q a.r) c.kind_numbered.ensures ∙ c.turn_refusal-unfit.ensures) c.if-unfit-ne0.true) refl (lent_refused
    e a.u.now a.v.now a.w.now refl)

pub turn_admitted-e-requires : goal.turn_admitted-e-requires
turn_admitted-e-requires c =
    let a = c.args in
    fitting_words (fits a.number a.p a.q a.r a.k a.a.now a.b.now a.rows.now (formula_of c.in-Admitted.field-0 c.in-Admitted.n c.in-Admitted.field-2
    a.a.now a.b.now a.rows.now) c.in-Admitted.ensures)

pub returns-then-e-ne0 : goal.returns-then-e-ne0
returns-then-e-ne0 c =
    let a = c.args in
    let done = c.turn_admitted-e in
    turned_told (reply.Refused done.result)
    (goes_on a.number a.p a.q a.r a.k a.a.now a.b.now a.rows.now (length a.u.now) (length a.v.now) (length a.w.now) c.turn_refusal-unfit.result
    (ap (λ (o : Option Kind). turnable o a.p a.q a.r) c.kind_numbered.ensures ∙ c.turn_refusal-unfit.ensures) (omega (arith, c.if-unfit-ne0.false))
    c.in-Admitted.ensures)
    (sym (ap turned_reply (done.ensures.0 ∙ by_some done.result (turned (formula_of c.in-Admitted.field-0 c.in-Admitted.n c.in-Admitted.field-2
    a.a.now a.b.now a.rows.now)) c.if-e-ne0.true))) done.ensures.1

pub middle-requires : goal.middle-requires
middle-requires c =
    let a = c.args in
    let f : Admitted = formula_of c.in-Admitted.field-0 c.in-Admitted.n c.in-Admitted.field-2 a.a.now a.b.now a.rows.now in
    let F = (sizes_bounds f.shape (f.n, f.m, length f.rows) (fits a.number a.p a.q a.r a.k a.a.now a.b.now a.rows.now f
    c.in-Admitted.ensures).sized).fits in
    (F.first, F.first_most)

pub returns-in-Refused : goal.returns-in-Refused
returns-in-Refused c =
    let a = c.args in
    let e = c.in-Refused.e in
    turned_told (reply.Refused e)
    (goes_on a.number a.p a.q a.r a.k a.a.now a.b.now a.rows.now (length a.u.now) (length a.v.now) (length a.w.now) c.turn_refusal-unfit.result
    (ap (λ (o : Option Kind). turnable o a.p a.q a.r) c.kind_numbered.ensures ∙ c.turn_refusal-unfit.ensures) (omega (arith, c.if-unfit-ne0.false))
    c.in-Refused.ensures)
    refl (lent_refused e a.u.now a.v.now a.w.now refl)

pub returns-else-e-ne0 : goal.returns-else-e-ne0
returns-else-e-ne0 c =
    let a = c.args in
    let done = c.turn_admitted-e in
    let f : Admitted = formula_of c.in-Admitted.field-0 c.in-Admitted.n c.in-Admitted.field-2 a.a.now a.b.now a.rows.now in
    turned_told (reply.Formula c.middle.result a.k)
    (goes_on a.number a.p a.q a.r a.k a.a.now a.b.now a.rows.now (length a.u.now) (length a.v.now) (length a.w.now) c.turn_refusal-unfit.result
    (ap (λ (o : Option Kind). turnable o a.p a.q a.r) c.kind_numbered.ensures ∙ c.turn_refusal-unfit.ensures) (omega (arith, c.if-unfit-ne0.false))
    c.in-Admitted.ensures)
    (ap₂ (λ (s : Shape) (k : ℕ). reply.Formula s k) c.middle.ensures
    (sym (length-map a.a.now (reversed f.n) ∙ (handed a.number a.p a.q a.r a.k a.a.now a.b.now a.rows.now f c.in-Admitted.ensures).products))
    ∙ sym (ap turned_reply (done.ensures.0 ∙ by_none done.result (turned f) (omega (arith, c.if-e-ne0.false)))))
    done.ensures.1
