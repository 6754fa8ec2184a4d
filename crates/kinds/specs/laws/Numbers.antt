-- No answer is refused by 0, and replies with the same numbers are the same.
--   need_numbered, refuse_numbered, follow_numbered, also_numbered   each step's number is at least 1
--   told, told_lent                                   a reply that is seen as what a definition says has that one's numbers
--   seen_numbered                                     and is not refused by 0 either
--   numbers_differ                                    replies that can be told from their numbers are the same where those are
--   refusal_zeros                                     every number of a refusal but the first is 0
-- Assumes nothing.
use Rattle.std.specs.Prelude.{◌≡◌, refl, Bool, List, ℕ, zero, suc, ◌≤◌, replicate, get_or, Option}
use Rattle.std.proofs.Common.{sym, ap, ◌∙◌, subst}
use Rattle.kinds.specs.Refusal.{Answer, need, refuse, follow, also}
use Rattle.kinds.specs.laws.Refusal.{need_only, refuse_only, follow_only, also_only}
use Rattle.kinds.specs.Numbers.{refusal_numbers, reply_numbers, NotByZero}

pub need_numbered : {A B : Type 0} (e : ℕ) (o : Option A) (f : A → Answer B) → 1 ≤ e → ((a : A) → NotByZero (f a)) → NotByZero (need e o f)
need_numbered e o f h g = need_only (λ e. 1 ≤ e) e o f h g

pub refuse_numbered : {A : Type 0} (e : ℕ) (b : Bool) (o : Answer A) → 1 ≤ e → NotByZero o → NotByZero (refuse e b o)
refuse_numbered e b o h g = refuse_only (λ e. 1 ≤ e) e b o h g

pub follow_numbered : {A B : Type 0} (o : Answer A) (f : A → Answer B) → NotByZero o → ((a : A) → NotByZero (f a)) → NotByZero (follow o f)
follow_numbered o f h g = follow_only (λ e. 1 ≤ e) o f h g

pub also_numbered : {A : Type 0} (e : ℕ) (b : Bool) (o : Answer A) → 1 ≤ e → NotByZero o → NotByZero (also e b o)
also_numbered e b o h g = also_only (λ e. 1 ≤ e) e b o h g

pub told : {A : Type 0} (count : ℕ) (values : A → List ℕ) {o s : Answer A} {numbers : List ℕ} → numbers ≡ reply_numbers count values s → o ≡ s
    → (o ≡ s) × (numbers ≡ reply_numbers count values o)
told count values n e = (e, n ∙ sym (ap (reply_numbers count values) e))

-- L is what is promised of a lent buffer
pub told_lent : {A L : Type 0} (count : ℕ) (values : A → List ℕ) {o s : Answer A} {numbers : List ℕ} → numbers ≡ reply_numbers count values s → (o ≡ s) × L
    → (o ≡ s) × L × (numbers ≡ reply_numbers count values o)
told_lent count values n R = (R.0, R.1, (told count values n R.0).1)

pub seen_numbered : {A : Type 0} {o s : Answer A} → o ≡ s → NotByZero o → NotByZero s
seen_numbered e n = subst NotByZero e n

pub numbers_differ : {X : Type 0} {u v : List ℕ} (from : List ℕ → X) {x y : X} → from u ≡ x → from v ≡ y → u ≡ v → x ≡ y
numbers_differ from p q e = sym p ∙ ap from e ∙ q

pub refusal_zeros : (count e i : ℕ) → ◌≡◌ {A = ℕ} (get_or (refusal_numbers count e) (suc i) 0) 0
refusal_zeros count e i = zeros count i
  where
    zeros : (count i : ℕ) → ◌≡◌ {A = ℕ} (get_or (replicate count 0) i 0) 0
    zeros zero i = refl
    zeros (suc count) zero = refl
    zeros (suc count) (suc i) = zeros count i
