-- The extension of a solution space, by a greedy choice: of the generators in order, each that is inside the space and not yet in the span of what is taken.
--   extension W    == the greedy choice that with the targets spans W
-- Document 01: "Its extension is the set of k − ℓ menu numbers, first in dictionary order when written ascending, which together with T span it":
-- `Theorems`. Assumes nothing.
use Rattle.std.specs.Prelude.{List, ℕ, length}
use Rattle.linear.specs.Space.{Space}
use Rattle.linear.specs.Basis.{basis_of}
use Rattle.linear.specs.Entry.{inside, generator}
use Rattle.linear.specs.Greedy.{greedy}

module _ (S : Space) (gens targets : List S.Vec) where
  open S use {Vec}

  unfoldable pub extension : List Vec → List ℕ
  extension W = greedy S gens (λ j. inside S W (generator S gens j)) (basis_of S targets) (length gens) 0
