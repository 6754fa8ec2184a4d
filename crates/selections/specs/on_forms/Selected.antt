-- Selections of generator numbers, and the question whether a selected one is redundant. Of which of them a form is the sum: `Shown`.
--   misfit n sel              == the selection has a number that is not below n, or one twice
--   without j sel             == the selection with j left out
--   summed gens sel v         == v is a sum of the selected generators
--   missed_by gens targets sel == some target is no sum of the selected generators
--   redundant_answer x sel j   == is each target still a sum of the selected generators of the problem x without j (document 01: is j spare); refusal 11
--   NumbersBelow n sel        == each selected number is below n
--   SelectionFits n sel       == each selected number is below n, and none stands twice
--   Marked sel before after   == marks with 1 put at each number of sel
--   seen_said a                == what the code's answer stands for
--   said_numbers a             == its numbers: the refusal's, and 1 for yes; `said_values b`, the same of what is accepted
-- Document 01: "For a selection of menu numbers two questions exist: is a given form a sum of selected forms; and is the selected product with menu
-- number j spare, meaning that the others still span T." Refusal 11: "A selection has a number outside the menu, or one twice, or (when spares are
-- asked for) doesn't span T or lacks j." What the answers mean is in crate selections. Assumes nothing.
use Rattle.std.specs.Prelude.{◌≡◌, Bool, true, false, not, cond, ◌||◌, ℕ, ◌<◌, length, get_or, eqb, ltb}
use mathlib.Core.List.{List, [], ◌∷◌, Memᴰ}
use Rattle.kinds.specs.Refusal.{Answer, refused, accepted, refuse}
use Rattle.kinds.specs.Numbers.{refusal_numbers, answer_numbers}
use Rattle.problems.specs.Problem.{Problem}
use Rattle.words.specs.lists.Lists.{repeats}
use Rattle.linear.specs.Basis.{basis_of}
use Rattle.linear.specs.Select.{any_of, only}
use Rattle.linear.specs.Entry.{inside, chosen}
use Rattle.linear.specs.Word.{word}
use Rattle.selections.specs.declared.on_forms.Said.{Said}
use Rattle.selections.specs.declared.on_forms.Said.TheVariants as said

unfoldable pub misfit : ℕ → List ℕ → Bool
misfit n sel = any_of (λ e. not (ltb e n)) sel || repeats sel

unfoldable pub without : ℕ → List ℕ → List ℕ
without j sel = only (λ e. not (eqb j e)) sel

unfoldable pub summed : (gens sel : List ℕ) → ℕ → Bool
summed gens sel v = inside word (basis_of word (chosen word gens sel)) v

unfoldable pub missed_by : (gens targets sel : List ℕ) → Bool
missed_by gens targets sel = any_of (λ t. not (summed gens sel t)) targets

abbrev pub NumbersBelow : ℕ → List ℕ → Type 0
NumbersBelow n sel = (e : ℕ) → Memᴰ e sel → e < n

pub record SelectionFits (n : ℕ) (sel : List ℕ) : Type 0 where
  pub numbers : NumbersBelow n sel
  pub once : repeats sel ≡ false

pub record Marked (sel before after : List ℕ) : Type 0 where
  pub same : length after ≡ length before
  pub is : (j : ℕ) → get_or after j 0 ≡ cond (any_of (eqb j) sel) 1 (get_or before j 0)

unfoldable pub redundant_answer : Problem → List ℕ → ℕ → Answer Bool
redundant_answer x sel j =
    refuse 11 (misfit (length x.generators) sel)
    (refuse 11 (missed_by x.generators x.targets sel)
    (refuse 11 (not (any_of (eqb j) sel))
    (accepted (not (missed_by x.generators x.targets (without j sel))))))

abbrev pub seen_said : Said → Answer Bool
seen_said (said.Refused e) = refused e
seen_said said.Yes = accepted true
seen_said said.No = accepted false

-- "A refusal is its number, every other number of the reply 0."
abbrev pub said_numbers : Said → List ℕ
said_numbers (said.Refused e) = refusal_numbers 1 e
said_numbers said.Yes = answer_numbers (1 ∷ [])
said_numbers said.No = answer_numbers (0 ∷ [])

abbrev pub said_values : Bool → List ℕ
said_values true = 1 ∷ []
said_values false = 0 ∷ []
