-- Two byte strings that are the same are equal lists, and equal lists are the same.
-- Assumes nothing.
use Rattle.std.specs.Prelude.{ℕ, ◌≡◌, refl, List, [], ◌∷◌, Bool, true, false, ◌&&◌, eqb}
use Rattle.std.proofs.Common.{arith, eq-eqb, eqb-true}
use Rattle.kinds.specs.Kinds.{same}

pub same_only : (s t : List ℕ) → same s t ≡ true → s ≡ t
same_only [] [] e = refl
same_only [] (y ∷ t) e = absurd (let q : ◌≡◌ {A = ℕ} 0 1 = cc in omega arith)
same_only (x ∷ s) [] e = absurd (let q : ◌≡◌ {A = ℕ} 0 1 = cc in omega arith)
same_only (x ∷ s) (y ∷ t) e = go (eqb x y) refl (same_only s t) e
  where
    go : (a : Bool) → eqb x y ≡ a → (same s t ≡ true → s ≡ t) → (a && same s t) ≡ true → x ∷ s ≡ y ∷ t
    go true h ih f = rw (eqb-true x y h, ih f)
    go false h ih f = absurd (let q : ◌≡◌ {A = ℕ} 0 1 = cc in omega arith)

pub same_self : (n : List ℕ) → same n n ≡ true
same_self [] = refl
same_self (b ∷ n) = rw (eq-eqb b b refl, same_self n)
