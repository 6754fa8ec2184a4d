-- The records of the formulae of a space.
--   formulae_from_law   from the empty basis they are those of all formulae
-- Assumes nothing.
use Rattle.std.specs.Prelude.{◌≡◌, List, [], map, ℕ, length}
use Rattle.linear.specs.Basis.{Reduced}
use Rattle.linear.specs.Formulae.{formulae}
use Rattle.linear.specs.Word.{word}
use Rattle.linear.proofs.laws.Spread.{spread_is}
use Rattle.choices.specs.Choice.{formula_record}
use Rattle.space_formulae.specs.enumeration.Spread.{formulae_from}

pub formulae_from_law : (gens w targets : List ℕ) → Reduced word w
    → formulae_from gens w targets [] [] (length gens) 0 (length w) ≡ map (formula_record gens targets) (formulae word gens w)
formulae_from_law gens w targets ρ = spread_is word gens w ρ (formula_record gens targets)
