-- Children of a space that lead nowhere.
--   Barren gens h j k m   == at a space with the residues h, no space for k comes about by the number j, if it is next, and m - 1 later ones, each next in its turn
-- Assumes nothing.
use Rattle.std.specs.Prelude.{◌≡◌, ◌≢◌, List, ℕ, ◌+◌, ◌-◌, length}
use Rattle.linear.specs.Basis.{insert, inserts, Reduced, dim}
use Rattle.linear.specs.Entry.{generator, chosen, generators_in}
use Rattle.linear.specs.Walk.{Next, Steps}
use Rattle.linear.specs.Word.{word}
use Rattle.residues.specs.children.Residues.{residues}

pub record Barren (gens h : List ℕ) (j k missing : ℕ) : Type 0 where
  pub none : (C : List ℕ) → Reduced word C → h ≡ residues gens C → Next word gens C j
      → (es : List ℕ) → length es ≡ missing - 1 → Steps word gens (insert word C (generator word gens j)) (j + 1) (length gens) es
      → dim word (generators_in word gens (inserts word (insert word C (generator word gens j)) (chosen word gens es))) ≢ k
