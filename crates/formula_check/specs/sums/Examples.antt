-- Adders counted by hand, shared and unshared, of formulae for poly 2,2 (a masks, b masks, rows) and of Strassen's for mat 2,2,2.
-- Document 02: "Products (3,1) and (3,2) then need one input adder where document 01 counts two." Assumes nothing.
use Rattle.std.specs.Prelude.{◌≡◌, refl, List, [], ◌∷◌, ℕ}
use Rattle.linear.specs.Bit.{bit}
use Rattle.linear.specs.Select.{any_of}
use Rattle.forms.specs.Weight.{weight}
use Rattle.formula_check.specs.Formula.{adders, unshared_adders}
use Rattle.formula_check.specs.sums.Sums.{adders_of, distinct}

abbrev pub Counted : (xs ys rows : List ℕ) (shared unshared : ℕ) → Type 0
Counted xs ys rows shared unshared = (adders xs ys rows ≡ shared) × (unshared_adders xs ys rows ≡ unshared)

-- (3,1), (3,2); (3,3) twice; equal rows; a mask of one side on the other too; masks that stand apart
pub counted_by_hand : Counted (3 ∷ 3 ∷ []) (1 ∷ 2 ∷ []) (1 ∷ 2 ∷ 0 ∷ []) 1 2
    × Counted (3 ∷ 3 ∷ []) (3 ∷ 3 ∷ []) (3 ∷ 0 ∷ 0 ∷ []) 3 5
    × Counted (1 ∷ 2 ∷ []) (1 ∷ 2 ∷ []) (3 ∷ 3 ∷ 3 ∷ []) 3 3
    × Counted (3 ∷ []) (3 ∷ []) (1 ∷ 1 ∷ 1 ∷ []) 2 2
    × Counted (1 ∷ 3 ∷ 3 ∷ 3 ∷ []) (3 ∷ 1 ∷ 3 ∷ 2 ∷ []) (0 ∷ 15 ∷ 3 ∷ []) 6 9
    × Counted (3 ∷ 3 ∷ 3 ∷ []) (1 ∷ 2 ∷ 3 ∷ []) (1 ∷ 4 ∷ 2 ∷ []) 2 4
    × Counted (1 ∷ 2 ∷ 3 ∷ []) (1 ∷ 2 ∷ 3 ∷ []) (1 ∷ 7 ∷ 2 ∷ []) 4 4
    × Counted (9 ∷ 12 ∷ 1 ∷ 8 ∷ 3 ∷ 5 ∷ 10 ∷ []) (9 ∷ 1 ∷ 10 ∷ 5 ∷ 8 ∷ 3 ∷ 12 ∷ []) (89 ∷ 20 ∷ 10 ∷ 39 ∷ []) 18 18
unfolding bit weight any_of distinct adders_of
counted_by_hand = ((refl, refl), (refl, refl), (refl, refl), (refl, refl), (refl, refl), (refl, refl), (refl, refl), (refl, refl))
