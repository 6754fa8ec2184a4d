-- How the generators inside a larger space are shared out among the residues that they leave at a smaller one. The law that follows from it
-- is `heavy` (Heavy).
--   Two              == the field has no element besides 0 and 1
--   total f l        == the sum of f over the members of l
--   gather f l       == the lists f u for the members u of l, joined
--   over B part      == how many dimensions the list part brings in over the reduced basis B
--   alike C y gs     == the members of gs whose residue at C is y
--   others xs        == the sums of the nonempty sublists of xs
--   space_weight C W y == the rank of the generators in the space W whose residue at C is y, over those in the space C
-- Laws: proofs/laws/Share. Assumes nothing.
use Rattle.std.specs.Prelude.{◌≡◌, ◌⊎◌, List, [], ◌∷◌, ◌++◌, map, ℕ, ◌+◌, ◌-◌, length}
use Rattle.linear.specs.Space.{Space}
use Rattle.linear.specs.Basis.{reduce, inserts, basis_of}
use Rattle.linear.specs.Select.{only}
use Rattle.linear.specs.Entry.{same_vec, generators_in}

unfoldable pub total : {A : Type 0} → (A → ℕ) → List A → ℕ
total f [] = 0
total f (u ∷ l) = f u + total f l

unfoldable pub gather : {A B : Type 0} → (A → List B) → List A → List B
gather f [] = []
gather f (u ∷ l) = f u ++ gather f l

module _ (S : Space) where
  open S use {fld, Vec, add}
  open fld use {K, 𝟘, 𝟙}

  abbrev pub Two : Type 0
  Two = (c : K) → (c ≡ 𝟘) ⊎ (c ≡ 𝟙)

  unfoldable pub over : List Vec → List Vec → ℕ
  over B part = length (inserts S B part) - length B

  unfoldable pub alike : List Vec → Vec → List Vec → List Vec
  alike C y gs = only (λ g. same_vec S (reduce S C g) y) gs

  unfoldable pub others : List Vec → List Vec
  others [] = []
  others (x ∷ xs) = others xs ++ x ∷ map (add x) (others xs)

  abbrev pub space_weight : List Vec → List Vec → List Vec → Vec → ℕ
  space_weight gens C W y = over (basis_of S (generators_in S gens C)) (alike C y (generators_in S gens W))
