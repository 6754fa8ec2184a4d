-- Sums shown, computed from the definitions: generators 1, 2, 3, selections by their numbers, and a buffer of two words that hold 7. Assumes nothing.
use Rattle.std.specs.Prelude.{◌≡◌, refl, List, [], ◌∷◌, ℕ}
use Rattle.kinds.specs.Refusal.{Answer, refused, accepted}
use Rattle.problems.specs.Problem.{problem}
use Rattle.words.specs.lists.Lists.{repeats}
use Rattle.linear.specs.Basis.{clear, reduce, norm, place, insert, inserts, basis_of}
use Rattle.linear.specs.Bit.{bit, top, digits_of}
use Rattle.linear.specs.Coefficients.{coefficient, coefficients}
use Rattle.linear.specs.Entry.{inside, generator, chosen}
use Rattle.linear.specs.Greedy.{wanted, greedy}
use Rattle.linear.specs.Part.{part}
use Rattle.linear.specs.Select.{any_of}
use Rattle.bases.specs.rows.Rows.{mask_of, row_of}
use Rattle.bases.specs.rows.Terms.{named, terms}
use Rattle.selections.specs.on_forms.Selected.{misfit, summed}
use Rattle.selections.specs.on_forms.Shown.{Summing, sum_of, no_sum, sum_answer}

unfoldable pub ask : List ℕ → ℕ → Answer Summing
ask sel form = sum_answer (problem (1 ∷ 2 ∷ 3 ∷ []) (3 ∷ [])) sel form (7 ∷ 7 ∷ [])

-- 3 is 1 + 2 where all are selected, whatever their order: generator 2 is not of the part. Alone, it is its own sum.
pub shown_by_hand : (ask (2 ∷ 0 ∷ 1 ∷ []) 3 ≡ accepted (sum_of 2 (0 ∷ 1 ∷ []))) × (ask (2 ∷ []) 3 ≡ accepted (sum_of 1 (2 ∷ 7 ∷ [])))
    × (ask (2 ∷ 1 ∷ []) 1 ≡ accepted (sum_of 2 (1 ∷ 2 ∷ []))) × (ask (2 ∷ 1 ∷ []) 3 ≡ accepted (sum_of 1 (2 ∷ 7 ∷ [])))
    × (ask (0 ∷ 2 ∷ []) 2 ≡ accepted (sum_of 2 (0 ∷ 2 ∷ []))) × (ask [] 0 ≡ accepted (sum_of 0 (7 ∷ 7 ∷ []))) × (ask [] 1 ≡ accepted no_sum)
    × (ask (0 ∷ 0 ∷ []) 1 ≡ refused 11) × (ask (3 ∷ []) 1 ≡ refused 11)
unfolding bit top digits_of clear reduce norm place insert inserts basis_of any_of repeats inside generator chosen wanted greedy part coefficient coefficients
    mask_of row_of named terms misfit summed sum_answer ask
shown_by_hand = (refl, refl, refl, refl, refl, refl, refl, refl, refl)
