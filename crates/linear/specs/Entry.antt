-- The entries of a catalogue. Generators are the vectors of document 01's menu, numbered from 0; targets are the vectors to be computed.
--   inside B v        == v is in the span of the basis B, as a test
--   generator j       == the generator with the number j
--   chosen es         == the generators with the numbers es
--   generators_in B    == the generators in the span of B
--   space es          == the space (as its reduced basis) that the targets and the generators numbered es span
--   Solution k B      == B is the reduced basis of a solution space for k: document 01's entry
--   SolutionSpace k X == the vectors X, whatever they are, span a solution space for k
--   fits k B          == the test for one: k rows, and the generators inside span k dimensions
--   entries k         == the entries for k, each by its extension, in the order of document 01
-- The theorems are in `Theorems`. Assumes nothing.
use Rattle.std.specs.Prelude.{◌≡◌, Bool, true, false, ◌&&◌, ℕ, ◌-◌, length, get_or, eqb}
use mathlib.Core.List.{List, [], ◌∷◌, Memᴰ}
use Rattle.linear.specs.Space.{Space}
use Rattle.linear.specs.Span.{Span, Within}
use Rattle.linear.specs.Rank.{Chosen, Computes}
use Rattle.linear.specs.Basis.{reduce, inserts, basis_of, Reduced, dim}
use Rattle.linear.specs.Order.{rising_lists}
use Rattle.linear.specs.Select.{only, first_of_each}

module _ (S : Space) where
  open S use {fld, Vec, nul, add, scale, is_nul}
  open fld use {𝟙, neg}

  -- equality of vectors and of bases, as tests
  unfoldable pub same_vec : Vec → Vec → Bool
  same_vec u v = is_nul (add (scale (neg 𝟙) u) v)

  unfoldable pub same_basis : List Vec → List Vec → Bool
  same_basis [] [] = true
  same_basis [] (c ∷ C) = false
  same_basis (b ∷ B) [] = false
  same_basis (b ∷ B) (c ∷ C) = same_vec b c && same_basis B C

  unfoldable pub inside : List Vec → Vec → Bool
  inside B v = is_nul (reduce S B v)

  module _ (gens : List Vec) where
    unfoldable pub generator : ℕ → Vec
    generator j = get_or gens j nul

    unfoldable pub chosen : List ℕ → List Vec
    chosen [] = []
    chosen (e ∷ es) = generator e ∷ chosen es

    unfoldable pub generators_in : List Vec → List Vec
    generators_in B = only (inside B) gens

    unfoldable pub fits : ℕ → List Vec → Bool
    fits k B = eqb (length B) k && eqb (dim S (generators_in B)) k

  module _ (gens targets : List Vec) where
    -- Document 01: "A space is an entry for k if its dimension is k, it contains T, and the menu forms inside it span it".
    pub record Solution (k : ℕ) (B : List Vec) : Type 0 where
      pub reduced : Reduced S B
      pub size : length B ≡ k
      pub holds : (t : Vec) → Memᴰ t targets → Span S B t
      pub spanned : (v : Vec) → Span S B v → Span S (generators_in gens B) v

    -- The same of a space that any list of vectors spans: "its dimension is k, it contains T, and the menu forms inside it span it".
    pub record SolutionSpace (k : ℕ) (X : List Vec) : Type 0 where
      pub size : dim S X ≡ k
      pub holds : Computes S targets X
      pub spanned : (v : Vec) → Span S X v → (xs : List Vec) × Chosen S gens xs × Within S xs X × Span S xs v

    unfoldable pub space : List ℕ → List Vec
    space es = inserts S (basis_of S targets) (chosen gens es)

    -- Document 01: "Its extension is the set of k − ℓ menu numbers, first in dictionary order when written ascending, which together with T
    -- spans it. Entries are listed in dictionary order of their extensions." So: of all rising lists of k − ℓ numbers, in dictionary order,
    -- those whose space is an entry and is that of no earlier list.
    unfoldable pub entries : ℕ → List (List ℕ)
    entries k = first_of_each space (fits gens k) same_basis [] (rising_lists (length gens) 0 (k - dim S targets))
