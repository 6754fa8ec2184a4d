-- Spaces over a space, and the residue that carries its part of their generators. A search for the spaces over D need only go on with the residues that do.
--   rests C xs       == what is left of each of xs at C with those before it put in
--   Fills gens D W m == W is the reduced basis of a space over D with m more dimensions, and D and the generators in W span it
--   Heavy gens D W m == the number of a generator in W but not in D whose residue at D has its part of the generators in W: with 2 ^ m - 1 values to share
--                       them, at least that part of the dimensions that they span besides those in D
-- The law: `heavy` (proofs/laws/Heavy). Assumes nothing.
use Rattle.std.specs.Prelude.{◌≡◌, ◌≢◌, List, [], ◌∷◌, ◌++◌, ℕ, ◌+◌, ◌-◌, ◌*◌, ◌^◌, ◌<◌, ◌≤◌, length}
use Rattle.linear.specs.Space.{Space}
use Rattle.linear.specs.Span.{Span, Within}
use Rattle.linear.specs.Basis.{reduce, insert, Reduced, dim}
use Rattle.linear.specs.Entry.{generator, generators_in}
use Rattle.linear.specs.Share.{space_weight}

module _ (S : Space) where
  open S use {Vec, nul}

  unfoldable pub rests : List Vec → List Vec → List Vec
  rests C [] = []
  rests C (x ∷ xs) = reduce S C x ∷ rests (insert S C x) xs

  module _ (gens : List Vec) where
    pub record Fills (D W : List Vec) (m : ℕ) : Type 0 where
      pub reduced : Reduced S W
      pub over : Within S D W
      pub size : length W ≡ length D + m
      pub filled : (v : Vec) → Span S W v → Span S (generators_in S gens W ++ D) v

    pub record Heavy (D W : List Vec) (m : ℕ) : Type 0 where
      pub number : ℕ
      pub below : number < length gens
      pub has : Span S W (generator S gens number)
      pub new : reduce S D (generator S gens number) ≢ nul
      pub part : dim S (generators_in S gens W) - dim S (generators_in S gens D) ≤ (2 ^ m - 1) * space_weight S gens D W (reduce S D (generator S gens number))
