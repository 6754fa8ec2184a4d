-- Reduced bases, and how one is made.
--   clear b v    == v with its coordinate at the lead of b made 0, by a multiple of b (whose own coordinate there is 1)
--   reduce B v   == v with the leads of all rows of B cleared, first row first
--   norm v       == the multiple of v whose leading coordinate is 1
--   insert B v   == B with one row more for v, or B itself where v brings nothing new
--   inserts B xs == B with each of xs inserted, first to last
--   basis_of xs   == the reduced basis of the span of xs
--   dim xs       == the dimension of the span of xs (of the targets: document 01's ℓ)
--   Reduced B    == the rows of B are reduced
--   Echelon B    == each row of B is 0, or has 1 at its lead and every later row 0 there
-- Document 01: "the k rows of its reduced basis: leading bits descending, the leading bit of a row set in no other row."
-- Laws: proofs/laws/Reduce, proofs/laws/Echelon, proofs/laws/Insert, proofs/laws/Dimension. Assumes nothing.
use Rattle.std.specs.Prelude.{◌≡◌, ◌⊎◌, cond, ℕ, ◌<◌, length, ltb}
use mathlib.Core.List.{List, [], ◌∷◌, Memᴰ}
use Rattle.linear.specs.Space.{Space}

module _ (S : Space) where
  open S use {fld, Vec, nul, add, scale, coord, lead, is_nul}
  open fld use {𝟘, 𝟙, neg, inv}

  unfoldable pub clear : Vec → Vec → Vec
  clear b v = add (scale (neg (coord v (lead b))) b) v

  unfoldable pub reduce : List Vec → Vec → Vec
  reduce [] v = v
  reduce (b ∷ B) v = reduce B (clear b v)

  unfoldable pub norm : Vec → Vec
  norm v = scale (inv (coord v (lead v))) v

  -- r put among the rows by its lead, and cleared in those above it
  unfoldable pub place : Vec → List Vec → List Vec
  place r [] = r ∷ []
  place r (b ∷ B) = cond (ltb (lead b) (lead r)) (r ∷ b ∷ B) (clear r b ∷ place r B)

  unfoldable pub insert : List Vec → Vec → List Vec
  insert B v = cond (is_nul (reduce B v)) B (place (norm (reduce B v)) B)

  unfoldable pub inserts : List Vec → List Vec → List Vec
  inserts B [] = B
  inserts B (x ∷ xs) = inserts (insert B x) xs

  unfoldable pub basis_of : List Vec → List Vec
  basis_of xs = inserts [] xs

  unfoldable pub dim : List Vec → ℕ
  dim xs = length (basis_of xs)

  -- v is 0 at the leads of B
  abbrev pub Zeroed : Vec → List Vec → Type 0
  Zeroed v B = (b : Vec) → Memᴰ b B → coord v (lead b) ≡ 𝟘

  -- Each row has 1 at its lead, every row below it a lower lead (so 0 at this one), and it is 0 at the leads of the rows below it.
  abbrev pub Reduced : List Vec → Type 0
  Reduced [] = Unit {0}
  Reduced (b ∷ B) = (coord b (lead b) ≡ 𝟙) × ((x : Vec) → Memᴰ x B → lead x < lead b) × Zeroed b B × Reduced B

  -- What reduction asks of rows: leads of their own, in any order, and rows that are 0 between them.
  abbrev pub Echelon : List Vec → Type 0
  Echelon [] = Unit {0}
  Echelon (b ∷ B) = ((b ≡ nul) ⊎ ((coord b (lead b) ≡ 𝟙) × ((x : Vec) → Memᴰ x B → coord x (lead b) ≡ 𝟘))) × Echelon B
