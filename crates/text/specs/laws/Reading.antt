-- Readings in steps.
--   inv   a reading of two steps has both
--   inj   what is read is one thing
-- Assumes nothing.
use Rattle.std.specs.Prelude.{ℕ, ◌≡◌, refl, Option, None, Some}
use Rattle.std.proofs.Common.{arith}
use Rattle.text.specs.Reading.{◌>>=◌}

pub inv : {A B : Type 0} (o : Option A) (f : A → Option B) (b : B) → (o >>= f) ≡ Some b → (a : A) × (o ≡ Some a) × (f a ≡ Some b)
inv None f b e = absurd (let q : ◌≡◌ {A = ℕ} 0 1 = cc in omega arith)
inv (Some a) f b e = (a, refl, e)

pub inj : {A : Type 0} (p q : A) → Some p ≡ Some q → p ≡ q
inj p q e = cc
