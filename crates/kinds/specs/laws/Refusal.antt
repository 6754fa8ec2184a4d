-- What an accepted answer says of the tests before it.
--   need_inv     there was a value, and what f says of it is the answer
--   refuse_inv   the test did not hold, and the rest is the answer
--   follow_inv   the first answer was accepted, and what f says of its value is the answer
--   also_inv     the test did not hold, and the answer was accepted
--   need_only, refuse_only, follow_only, also_only   what holds of each step's number holds of the answer's
--   follow_known       the same, where what follows an answer may depend on it
--   by_some, by_none   a refusal's number that is not 0, and 0
--   neither      of two tests joined in one refusal that did not apply, neither holds
-- Assumes nothing.
use Rattle.std.specs.Prelude.{◌≡◌, refl, Bool, true, false, ◌||◌, ℕ, zero, suc, ◌≤◌, min, Option, None, Some}
use Rattle.std.proofs.Common.{subst, true≢false, arith}
use Rattle.std.proofs.Math.Decide.{dec_le}
use Rattle.kinds.specs.Refusal.{Answer, refused, accepted, need, refuse, follow, also, refused_by, RefusedOnly}

pub accepted_inj : {A : Type 0} (x y : A) → accepted x ≡ accepted y → x ≡ y
accepted_inj x y e = cc

pub need_inv : {A B : Type 0} (e : ℕ) (o : Option A) (f : A → Answer B) (x : B) → need e o f ≡ accepted x → (a : A) × (o ≡ Some a) × (f a ≡ accepted x)
need_inv e None f x q = absurd (let z : ◌≡◌ {A = ℕ} 0 1 = cc in omega arith)
need_inv e (Some a) f x q = (a, refl, q)

pub refuse_inv : {A : Type 0} (e : ℕ) (b : Bool) (o : Answer A) (x : A) → refuse e b o ≡ accepted x → (b ≡ false) × (o ≡ accepted x)
refuse_inv e true o x q = absurd (let z : ◌≡◌ {A = ℕ} 0 1 = cc in omega arith)
refuse_inv e false o x q = (refl, q)

pub follow_inv : {A B : Type 0} (o : Answer A) (f : A → Answer B) (x : B) → follow o f ≡ accepted x → (a : A) × (o ≡ accepted a) × (f a ≡ accepted x)
follow_inv (refused e) f x q = absurd (let z : ◌≡◌ {A = ℕ} 0 1 = cc in omega arith)
follow_inv (accepted a) f x q = (a, refl, q)

pub also_inv : {A : Type 0} (e : ℕ) (b : Bool) (o : Answer A) (x : A) → also e b o ≡ accepted x → (b ≡ false) × (o ≡ accepted x)
also_inv e true (refused f) x q = absurd (let z : ◌≡◌ {A = ℕ} 0 1 = cc in omega arith)
also_inv e true (accepted a) x q = absurd (let z : ◌≡◌ {A = ℕ} 0 1 = cc in omega arith)
also_inv e false o x q = (refl, q)

-- ---- by which numbers
module _ (P : ℕ → Type 0) where
  pub need_only : {A B : Type 0} (e : ℕ) (o : Option A) (f : A → Answer B) → P e → ((a : A) → RefusedOnly P (f a)) → RefusedOnly P (need e o f)
  need_only e None f h g = h
  need_only e (Some a) f h g = g a

  pub refuse_only : {A : Type 0} (e : ℕ) (b : Bool) (o : Answer A) → P e → RefusedOnly P o → RefusedOnly P (refuse e b o)
  refuse_only e true o h g = h
  refuse_only e false o h g = g

  pub follow_only : {A B : Type 0} (o : Answer A) (f : A → Answer B) → RefusedOnly P o → ((a : A) → RefusedOnly P (f a)) → RefusedOnly P (follow o f)
  follow_only (refused e) f h g = h
  follow_only (accepted a) f h g = g a

  pub follow_known : {A B : Type 0} (o : Answer A) (f : A → Answer B) → RefusedOnly P o → ((a : A) → o ≡ accepted a → RefusedOnly P (f a))
      → RefusedOnly P (follow o f)
  follow_known (refused e) f h g = h
  follow_known (accepted a) f h g = g a refl

  pub also_only : {A : Type 0} (e : ℕ) (b : Bool) (o : Answer A) → P e → RefusedOnly P o → RefusedOnly P (also e b o)
  also_only e false o h g = g
  also_only e true (refused f) h g = lesser f g (dec_le e f)
    where
      lesser : (f : ℕ) → P f → Dec (e ≤ f) → P (min e f)
      lesser f g (yes l) = subst P (omega arith) h
      lesser f g (no l) = subst P (omega arith) g
  also_only e true (accepted a) h g = h

  pub refused_only : {A : Type 0} {o : Answer A} {e : ℕ} → RefusedOnly P o → o ≡ refused e → P e
  refused_only h q = subst (RefusedOnly P) q h

pub by_some : {A : Type 0} (e : ℕ) (a : A) → (e ≡ 0 → ⊥) → refused_by e a ≡ refused e
by_some zero a d = absurd (d refl)
by_some (suc e) a d = refl

pub by_none : {A : Type 0} (e : ℕ) (a : A) → e ≡ 0 → refused_by e a ≡ accepted a
by_none zero a d = refl
by_none (suc e) a d = absurd (omega arith)

pub neither : (a b : Bool) → a || b ≡ false → (a ≡ false) × (b ≡ false)
neither true b e = absurd (true≢false e)
neither false b e = (refl, e)
