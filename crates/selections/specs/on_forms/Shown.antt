-- Of which selected generators a form is the sum, with what is written.
--   Summing                  == a sum of so many terms, the buffer's content with it; or none
--   shown b ts old           == a sum of the terms ts in a buffer that holds old, where b says that there is one; refusal 9
--   sum_answer x sel form old == of which of the selected generators of the problem x the form is the sum; refusals 11 and 9
--   seen_summed r after       == what the code's answer r says, the buffer holding `after`
--   summed_numbers r          == its numbers: the refusal's; 1 for yes and 0 for no; how many terms; `summed_values`, the same of what is accepted
--   lent_summed a old         == the buffer's content at exit: as it was, unless terms were written
--   shown_over c form old     == the same over the generators that the record c holds; Shows c == they are independent
--   RestOver c form r        == r says whether the form is a sum of them, and its row if so
-- Document 02: "When a form is found to be a sum of selected forms, buyers want the terms. The yes now carries them as menu numbers, ascending. Only the
-- dictionary_first part that is independent and spans all of the selection may be used, so there is one such sum. A no carries an empty list."
-- What it means is in crate selections. Assumes nothing.
use Rattle.std.specs.Prelude.{◌≡◌, ◌≢◌, Bool, true, false, List, [], ◌∷◌, ℕ, length, ltb}
use Rattle.kinds.specs.Refusal.{Answer, refused, accepted, refuse}
use Rattle.kinds.specs.Numbers.{refusal_numbers, answer_numbers}
use Rattle.problems.specs.Problem.{Problem}
use Rattle.words.specs.Buffers.{filled}
use Rattle.linear.specs.Span.{Independent}
use Rattle.linear.specs.Basis.{basis_of}
use Rattle.linear.specs.Entry.{inside}
use Rattle.linear.specs.Word.{word}
use Rattle.bases.specs.declared.rows.Rest.{Rest}
use Rattle.bases.specs.rows.Rows.{row_of}
use Rattle.bases.specs.rows.Terms.{named, terms}
use Rattle.choices.specs.declared.Choice.{Choice}
use Rattle.choices.specs.Choice.{numbers_of, forms_of, Whole}
use Rattle.selections.specs.on_forms.Selected.{misfit, summed}
use Rattle.selections.specs.declared.on_forms.Summed.{Summed}
use Rattle.selections.specs.declared.on_forms.Summed.TheVariants as said

pub data Summing : Type 0 where
  sum_of : (count : ℕ) (buffer : List ℕ) → Summing
  no_sum : Summing

-- from the buffer's start, its rest as it was
abbrev pub shown : Bool → (ts old : List ℕ) → Answer Summing
shown true ts old = refuse 9 (ltb (length old) (length ts)) (accepted (sum_of (length ts) (filled ts old)))
shown false ts old = accepted no_sum

unfoldable pub sum_answer : Problem → List ℕ → ℕ → List ℕ → Answer Summing
sum_answer x sel form old =
    refuse 11 (misfit (length x.generators) sel) (shown (summed x.generators sel form) (terms x.generators sel form) old)

-- the answer of the code
abbrev pub seen_summed : Summed → List ℕ → Answer Summing
seen_summed (said.Refused e) after = refused e
seen_summed (said.Yes n) after = accepted (sum_of n after)
seen_summed said.No after = accepted no_sum

-- "A refusal is its number, every other number of the reply 0."
abbrev pub summed_numbers : Summed → List ℕ
summed_numbers (said.Refused e) = refusal_numbers 2 e
summed_numbers (said.Yes n) = answer_numbers (1 ∷ n ∷ [])
summed_numbers said.No = answer_numbers (0 ∷ 0 ∷ [])

abbrev pub summed_values : Summing → List ℕ
summed_values (sum_of n buffer) = 1 ∷ n ∷ []
summed_values no_sum = 0 ∷ 0 ∷ []

-- "any other refused call leaves its buffers unchanged"
abbrev pub lent_summed : Answer Summing → List ℕ → List ℕ
lent_summed (refused e) old = old
lent_summed (accepted (sum_of n buffer)) old = buffer
lent_summed (accepted no_sum) old = old

unfoldable pub shown_over : Choice → ℕ → List ℕ → Answer Summing
shown_over c form old = shown (inside word (basis_of word (forms_of c)) form) (named (numbers_of c) (row_of (forms_of c) form) 0) old

pub record Shows (c : Choice) : Type 0 where
  pub whole : Whole c
  pub independent : Independent word (forms_of c)

pub record RestOver (c : Choice) (form : ℕ) (r : Rest) : Type 0 where
  pub none_left : r.form ≡ 0 → inside word (basis_of word (forms_of c)) form ≡ true
  pub some_left : r.form ≢ 0 → inside word (basis_of word (forms_of c)) form ≡ false
  pub row : r.form ≡ 0 → r.mask ≡ row_of (forms_of c) form
