-- The answers of the code, in the definitions' terms, and what the steps of a Check ask.
--   seen_admission x xs ys rows == what the code's answer on a formula with those lists stands for: a refusal, or the admitted formula
--   seen_reply ..  == the reply that the code's answer stands for
--   check_numbers  == its numbers: the refusal's; 0 for right, 1 for wrong; the output; the adders; `check_values`, the same of what is accepted
--   formula_values f == the numbers of a formula that is put into lent buffers: its kind's, p, q, r and k; `outline o`, what they tell
--   Judging ..    == rows for the outputs of a map with accepted sizes, and at most 64 forms
--   Fitting ..    == as many masks on one side as on the other, at most 64, and such rows
-- Assumes nothing.
use Rattle.std.specs.Prelude.{◌≡◌, List, [], ◌∷◌, ℕ, ◌≤◌, length, Option, None, Some}
use Rattle.kinds.specs.Kinds.{number_of}
use Rattle.kinds.specs.Sizes.{sizes}
use Rattle.kinds.specs.Refusal.{Answer, refused, accepted}
use Rattle.kinds.specs.Numbers.{refusal_numbers, answer_numbers}
use Rattle.kinds.specs.declared.Shape.{Shape}
use Rattle.formula_check.specs.Formula.{Admitted, formula_of}
use Rattle.formula_check.specs.verdicts.Verdicts.{seen_verdict}
use Rattle.formula_check.specs.declared.Admission.{Admission}
use Rattle.formula_check.specs.declared.Admission.TheVariants as admission
use Rattle.formula_check.specs.declared.verdicts.Verdict.TheVariants as verdict
use Rattle.formula_check.specs.declared.Reply.{Reply}
use Rattle.formula_check.specs.declared.Reply.TheVariants as reply
use Rattle.kinds.specs.Limits.{most_products}

abbrev pub seen_admission : Admission → (xs ys rows : List ℕ) → Answer Admitted
seen_admission (admission.Refused e) xs ys rows = refused e
seen_admission (admission.Admitted shape n m) xs ys rows = accepted (formula_of shape n m xs ys rows)

abbrev pub seen_reply : Reply → Answer (Option ℕ × ℕ)
seen_reply (reply.Refused e) = refused e
seen_reply (reply.Judged v w) = accepted (seen_verdict v, w)

-- "A refusal is its number, every other number of the reply 0."
abbrev pub check_numbers : Reply → List ℕ
check_numbers (reply.Refused e) = refusal_numbers 3 e
check_numbers (reply.Judged verdict.Right w) = answer_numbers (0 ∷ 0 ∷ w ∷ [])
check_numbers (reply.Judged (verdict.Wrong t) w) = answer_numbers (1 ∷ t ∷ w ∷ [])

abbrev pub check_values : Option ℕ × ℕ → List ℕ
check_values (None, w) = 0 ∷ 0 ∷ w ∷ []
check_values (Some t, w) = 1 ∷ t ∷ w ∷ []

abbrev pub formula_values : Admitted → List ℕ
formula_values f = number_of f.shape.kind ∷ f.shape.p ∷ f.shape.q ∷ f.shape.r ∷ length f.firsts ∷ []

abbrev pub outline : Answer Admitted → Answer (Shape × ℕ)
outline (refused e) = refused e
outline (accepted f) = accepted (f.shape, length f.firsts)

pub record Judging (shape : Shape) (n m : ℕ) (fs rows : List ℕ) : Type 0 where
  pub sized : sizes shape ≡ Some (n, m, length rows)
  pub few : length fs ≤ most_products

pub record Fitting (shape : Shape) (n m : ℕ) (xs ys rows : List ℕ) : Type 0 where
  pub sized : sizes shape ≡ Some (n, m, length rows)
  pub paired : length xs ≡ length ys
  pub few : length xs ≤ most_products
