-- The residues of the generators at a space.
--   residues gens C       == what is left of each generator when the leads of the basis C are cleared in it
--   known h i             == by the residues h, the number i brings in nothing, or what an earlier one would
--   with_residue x gens h  == the generators whose residue is x, in their order
-- Laws: proofs/laws/of_children/Known, Child. Assumes nothing.
use Rattle.std.specs.Prelude.{Bool, cond, ◌||◌, List, [], ◌∷◌, map, ℕ, get_or, take, eqb}
use Rattle.linear.specs.Basis.{reduce}
use Rattle.linear.specs.Select.{any_of}
use Rattle.linear.specs.Word.{word, is_zero}

unfoldable pub residues : List ℕ → List ℕ → List ℕ
residues gens C = map (reduce word C) gens

unfoldable pub known : List ℕ → ℕ → Bool
known h i = is_zero (get_or h i 0) || any_of (eqb (get_or h i 0)) (take i h)

unfoldable pub with_residue : ℕ → List ℕ → List ℕ → List ℕ
with_residue x [] h = []
with_residue x (g ∷ gens) [] = []
with_residue x (g ∷ gens) (y ∷ h) = let r = with_residue x gens h in cond (eqb y x) (g ∷ r) r
