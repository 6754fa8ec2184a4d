-- The numbers of Check's reply, and of a formula that is put into lent buffers.
--   check_told                      what is seen as the definition says has its numbers
--   check_differ                    distinct replies have distinct numbers
--   admit_only                      a formula is refused by 2, 3 or 5 to 8
--   admit_numbered, check_numbered  and never by 0
--   outlines_differ                 formulae put into buffers with the same numbers have the same kind, sizes and k
-- Assumes nothing.
use Rattle.std.specs.Prelude.{◌≡◌, refl, ◌||◌, List, [], ◌∷◌, ℕ, zero, suc, ◌≤◌, length, ltb, Option, None, Some}
use Rattle.std.proofs.Common.{ap, arith}
use Rattle.kinds.specs.Kinds.{kind_numbered, kind_numbered_law, known_map}
use Rattle.kinds.specs.Sizes.{shape_of, sizes}
use Rattle.kinds.specs.Limits.{most_products}
use Rattle.kinds.specs.Refusal.{Answer, refused, accepted, RefusedOnly}
use Rattle.kinds.specs.laws.Refusal.{need_only, refuse_only}
use Rattle.kinds.specs.Numbers.{reply_numbers, NotByZero}
use Rattle.kinds.specs.laws.Numbers.{told, numbers_differ, follow_numbered}
use Rattle.kinds.specs.declared.Kind.{Kind}
use Rattle.kinds.specs.declared.Shape.{Shape}
use Rattle.words.specs.Masks.{wide, zero_in}
use Rattle.formula_check.specs.Formula.{Lists, Admitted, passed, admit, lists_handed, check}
use Rattle.formula_check.specs.Replies.{seen_reply, check_numbers, check_values, formula_values, outline}
use Rattle.formula_check.specs.declared.verdicts.Verdict.TheVariants as verdict
use Rattle.formula_check.specs.declared.Reply.{Reply}
use Rattle.formula_check.specs.declared.Reply.TheVariants as reply

check_numbers_law : (x : Reply) → check_numbers x ≡ reply_numbers 3 check_values (seen_reply x)
check_numbers_law (reply.Refused e) = refl
check_numbers_law (reply.Judged verdict.Right w) = refl
check_numbers_law (reply.Judged (verdict.Wrong t) w) = refl

pub check_told : {o : Answer (Option ℕ × ℕ)} (x : Reply) → o ≡ seen_reply x → (o ≡ seen_reply x) × (check_numbers x ≡ reply_numbers 3 check_values o)
check_told x e = told 3 check_values (check_numbers_law x) e

-- the reply with those numbers
from : List ℕ → Reply
from (suc e ∷ v) = reply.Refused (suc e)
from (zero ∷ zero ∷ t ∷ w ∷ v) = reply.Judged verdict.Right w
from (zero ∷ suc b ∷ t ∷ w ∷ v) = reply.Judged (verdict.Wrong t) w
from (zero ∷ b ∷ t ∷ []) = reply.Refused 0
from (zero ∷ b ∷ []) = reply.Refused 0
from (zero ∷ []) = reply.Refused 0
from [] = reply.Refused 0

back : (x : Reply) → NotByZero (seen_reply x) → from (check_numbers x) ≡ x
unfolding from
back (reply.Refused zero) h = absurd (omega arith)
back (reply.Refused (suc e)) h = refl
back (reply.Judged verdict.Right w) h = refl
back (reply.Judged (verdict.Wrong t) w) h = refl

pub check_differ : (x y : Reply) → NotByZero (seen_reply x) → NotByZero (seen_reply y) → check_numbers x ≡ check_numbers y → x ≡ y
check_differ x y n m e = numbers_differ from (back x n) (back y m) e

-- by which numbers a formula is refused
pub admit_only : (P : ℕ → Type 0) (named : Option Kind) (p q r k : ℕ) (lists : ℕ → Option Lists) → P 2 → P 3 → P 5 → P 6 → P 7 → P 8
    → RefusedOnly P (admit named p q r k lists)
unfolding admit passed
admit_only P named p q r k lists two three five six seven eight =
    need_only P 2 (known_map named) _ two λ kd.
    need_only P 3 (sizes (shape_of kd p q r)) _ three λ z.
    need_only P 5 (lists z.2) _ five λ l.
    refuse_only P 6 (wide z.0 l.0 || (wide z.1 l.1 || wide k l.2)) _ six
    (refuse_only P 7 (zero_in l.0 || zero_in l.1) _ seven
    (refuse_only P 8 (ltb most_products k) _ eight tt))

pub admit_numbered : (named : Option Kind) (p q r k : ℕ) (lists : ℕ → Option Lists) → NotByZero (admit named p q r k lists)
admit_numbered named p q r k lists =
    admit_only (λ e. 1 ≤ e) named p q r k lists (omega arith) (omega arith) (omega arith) (omega arith) (omega arith) (omega arith)

pub check_numbered : (number p q r k : ℕ) (xs ys rows : List ℕ) → NotByZero (check number p q r k xs ys rows)
unfolding check
check_numbered number p q r k xs ys rows =
    let lists = lists_handed k xs ys rows in
    follow_numbered (admit (kind_numbered number) p q r k lists) _ (admit_numbered (kind_numbered number) p q r k lists) (λ f. tt)

-- ---- a formula that is put into lent buffers: its outline from its numbers
named : Option Kind → (p q r k : ℕ) → Answer (Shape × ℕ)
named None p q r k = refused 0
named (Some kd) p q r k = accepted (shape_of kd p q r, k)

outlined : List ℕ → Answer (Shape × ℕ)
outlined (suc e ∷ v) = refused (suc e)
outlined (zero ∷ n ∷ p ∷ q ∷ r ∷ k ∷ v) = named (kind_numbered n) p q r k
outlined (zero ∷ n ∷ p ∷ q ∷ r ∷ []) = refused 0
outlined (zero ∷ n ∷ p ∷ q ∷ []) = refused 0
outlined (zero ∷ n ∷ p ∷ []) = refused 0
outlined (zero ∷ n ∷ []) = refused 0
outlined (zero ∷ []) = refused 0
outlined [] = refused 0

outline_back : (o : Answer Admitted) → NotByZero o → outlined (reply_numbers 5 formula_values o) ≡ outline o
unfolding outlined named
outline_back (refused zero) h = absurd (omega arith)
outline_back (refused (suc e)) h = refl
outline_back (accepted f) h =
    ap (λ (kd : Option Kind). named kd f.shape.p f.shape.q f.shape.r (length f.firsts)) (kind_numbered_law f.shape.kind)

pub outlines_differ : (o u : Answer Admitted) → NotByZero o → NotByZero u
    → reply_numbers 5 formula_values o ≡ reply_numbers 5 formula_values u → outline o ≡ outline u
outlines_differ o u n m = numbers_differ outlined (outline_back o n) (outline_back u m)
