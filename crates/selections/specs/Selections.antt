-- Two questions on a selection of generator numbers, for a problem handed in.
--   is_sum ..       == of which of the selected generators the form is the sum, the terms in a buffer that holds old; refusals 2 to 7, 11, then 9
--   is_redundant .. == is each target still a sum of the selected generators without j (document 01: is j spare); refusals 2 to 7, then 11
-- The two questions are in `on_forms`. What the answers mean is in `Theorems`. Assumes nothing.
use Rattle.std.specs.Prelude.{Bool, List, [], ◌∷◌, ℕ}
use Rattle.kinds.specs.Refusal.{Answer, follow}
use Rattle.problems.specs.Problem.{posed}
use Rattle.selections.specs.on_forms.Selected.{redundant_answer}
use Rattle.selections.specs.on_forms.Shown.{Summing, sum_answer}

unfoldable pub is_sum : (number p q r : ℕ) (gs ts sel : List ℕ) (form : ℕ) (old : List ℕ) → Answer Summing
is_sum number p q r gs ts sel form old = follow (posed number p q r gs ts (form ∷ [])) λ x. sum_answer x sel form old

unfoldable pub is_redundant : (number p q r : ℕ) (gs ts sel : List ℕ) (j : ℕ) → Answer Bool
is_redundant number p q r gs ts sel j = follow (posed number p q r gs ts []) λ x. redundant_answer x sel j
