-- The matrix of a form: its bits cut into rows, and a lower bound for the number of generators.
--   row w f i       == row i of the form f, cut into rows of w bits: of a form a_i b_j, w the number of b's, the b's that a_i is multiplied by
--   Width w         == a number of bits that rows may have
--   Product w g     == the rows of g are multiples of one row: its matrix has rank at most 1, as that of a product of a sum of a's and a sum of b's
--   Products w gens == each generator is such
--   Ranked w f r    == some rows of f span r dimensions: its matrix has at least rank r
--   Summed b w r    == some form in the span of the basis b has a matrix of at least rank r
--   Bound gens b r  == "A form of matrix rank ρ needs at least ρ products": no k below r has an entry, whatever targets have the basis b
-- Laws: laws/Matrix. Assumes nothing.
use Rattle.std.specs.Prelude.{◌≡◌, ℕ, zero, suc, ◌/◌, ◌%◌, ◌^◌, ◌<◌}
use mathlib.Core.List.{List, [], ◌∷◌, Memᴰ}
use Rattle.linear.specs.Basis.{basis_of, dim}
use Rattle.linear.specs.Entry.{entries}
use Rattle.linear.specs.Span.{Span}
use Rattle.linear.specs.Word.{word}
use Rattle.bases.specs.Basis.{rows_of, Holds}
use Rattle.bases.specs.declared.Basis.{Basis}

unfoldable pub row : ℕ → ℕ → ℕ → ℕ
row w f zero = f % 2 ^ w
row w f (suc i) = row w (f / 2 ^ w) i

pub record Width (w : ℕ) : Type 0 where
  pub some : 0 < w
  pub within : w < 64

-- u's multiples are all the rows
abbrev pub Multiples : ℕ → ℕ → ℕ → Type 0
Multiples w u g = (i : ℕ) → Span word (u ∷ []) (row w g i)

abbrev pub Product : ℕ → ℕ → Type 0
Product w g = (u : ℕ) × Multiples w u g

abbrev pub Products : ℕ → List ℕ → Type 0
Products w gens = (g : ℕ) → Memᴰ g gens → Product w g

pub record Ranked (w f r : ℕ) : Type 0 where
  pub rows : List ℕ
  pub each : (x : ℕ) → Memᴰ x rows → (i : ℕ) × (x ≡ row w f i)
  pub size : dim word rows ≡ r

pub record Summed (b : Basis) (w r : ℕ) : Type 0 where
  pub form : ℕ
  pub sum : Span word (rows_of b) form
  pub rank : Ranked w form r

abbrev pub Bound : (gens : List ℕ) → Basis → ℕ → Type 0
Bound gens b r = (targets : List ℕ) → Holds (basis_of word targets) b → (k : ℕ) → k < r → entries word gens targets k ≡ []
