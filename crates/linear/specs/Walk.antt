-- The walk over the rising lists of generator numbers, as a program goes: down with the basis of the space and the numbers taken.
--   Next C e                     == after the space C the number e is new, and brings in nothing that a smaller number would have brought in
--   Steps C lo hi es             == es rises from lo on and below hi, and each number is next after C and those before it
--   spans k C                    == the generators in the space C span k dimensions
--   walk C p n i m               == what is emitted from the space C, reached with the numbers p, for m more numbers out of i, .., i + n - 1, each of them not
--                                   stopped by `stop`, that lead to a space that passes `leaf`
-- The walk's list is that of the entries, for every test that stops the numbers that are not next: `walk_is` (proofs/laws/Walk). Assumes nothing.
use Rattle.std.specs.Prelude.{Bool, true, false, cond, List, [], ◌∷◌, ◌++◌, ℕ, zero, suc, ◌<◌, ◌≤◌, eqb}
use Rattle.linear.specs.Space.{Space}
use Rattle.linear.specs.Span.{Span}
use Rattle.linear.specs.Basis.{insert, dim}
use Rattle.linear.specs.Entry.{generator, generators_in}

module _ (S : Space) (gens : List S.Vec) where
  open S use {Vec}

  pub record Next (C : List Vec) (e : ℕ) : Type 0 where
    pub new : ¬ Span S C (generator S gens e)
    pub first : (j : ℕ) → j < e → Span S (insert S C (generator S gens e)) (generator S gens j) → Span S C (generator S gens j)

  unfoldable pub spans : ℕ → List Vec → Bool
  spans k C = eqb (dim S (generators_in S gens C)) k

  module _ (stop : List Vec → ℕ → Bool) (leaf : List Vec → Bool) {A : Type 0} (emit : List ℕ → List Vec → A) where
    unfoldable pub walk : List Vec → List ℕ → ℕ → ℕ → ℕ → List A
    walk C p n i zero = cond (leaf C) (emit p C ∷ []) []
    walk C p zero i (suc m) = []
    walk C p (suc n) i (suc m) =
        elim (stop C i) [ true ↦ walk C p n (suc i) (suc m) | false ↦ walk (insert S C (generator S gens i)) (p ++ i ∷ []) n (suc i) m ++ walk C p n (suc i) (suc m) ]

module _ (S : Space) (gens : List S.Vec) where
  open S use {Vec}

  -- rising numbers from lo on and below hi, each a next one
  abbrev pub Steps : List Vec → ℕ → ℕ → List ℕ → Type 0
  Steps C lo hi [] = Unit {0}
  Steps C lo hi (e ∷ es) = (lo ≤ e) × (e < hi) × Next S gens C e × Steps (insert S C (generator S gens e)) (suc e) hi es
