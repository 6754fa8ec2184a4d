-- The numbers of an answer on a selection.
--   said_told, summed_told       what is seen as the definition says has its numbers
--   said_differ, summed_differ   distinct answers have distinct numbers
-- Assumes nothing.
use Rattle.std.specs.Prelude.{◌≡◌, refl, Bool, List, [], ◌∷◌, ℕ, zero, suc}
use Rattle.std.proofs.Common.{arith}
use Rattle.kinds.specs.Refusal.{Answer}
use Rattle.kinds.specs.Numbers.{reply_numbers, NotByZero}
use Rattle.kinds.specs.laws.Numbers.{told, told_lent, numbers_differ}
use Rattle.selections.specs.on_forms.Selected.{seen_said, said_numbers, said_values}
use Rattle.selections.specs.on_forms.Shown.{Summing, seen_summed, summed_numbers, summed_values}
use Rattle.selections.specs.declared.on_forms.Said.{Said}
use Rattle.selections.specs.declared.on_forms.Said.TheVariants as said
use Rattle.selections.specs.declared.on_forms.Summed.{Summed}
use Rattle.selections.specs.declared.on_forms.Summed.TheVariants as summed

said_numbers_law : (x : Said) → said_numbers x ≡ reply_numbers 1 said_values (seen_said x)
said_numbers_law (said.Refused e) = refl
said_numbers_law said.Yes = refl
said_numbers_law said.No = refl

pub said_told : {o : Answer Bool} (x : Said) → o ≡ seen_said x → (o ≡ seen_said x) × (said_numbers x ≡ reply_numbers 1 said_values o)
said_told x e = told 1 said_values (said_numbers_law x) e

-- the answer with those numbers
from : List ℕ → Said
from (suc e ∷ v) = said.Refused (suc e)
from (zero ∷ suc b ∷ v) = said.Yes
from (zero ∷ zero ∷ v) = said.No
from (zero ∷ []) = said.No
from [] = said.No

back : (x : Said) → NotByZero (seen_said x) → from (said_numbers x) ≡ x
unfolding from
back (said.Refused zero) h = absurd (omega arith)
back (said.Refused (suc e)) h = refl
back said.Yes h = refl
back said.No h = refl

pub said_differ : (x y : Said) → NotByZero (seen_said x) → NotByZero (seen_said y) → said_numbers x ≡ said_numbers y → x ≡ y
said_differ x y n m e = numbers_differ from (back x n) (back y m) e

-- ---- with terms
summed_numbers_law : (x : Summed) (after : List ℕ) → summed_numbers x ≡ reply_numbers 2 summed_values (seen_summed x after)
summed_numbers_law (summed.Refused e) after = refl
summed_numbers_law (summed.Yes n) after = refl
summed_numbers_law summed.No after = refl

pub summed_told : {o : Answer Summing} {L : Type 0} (x : Summed) (after : List ℕ) → (o ≡ seen_summed x after) × L
    → (o ≡ seen_summed x after) × L × (summed_numbers x ≡ reply_numbers 2 summed_values o)
summed_told x after R = told_lent 2 summed_values (summed_numbers_law x after) R

-- the answer with those numbers
summed_from : List ℕ → Summed
summed_from (suc e ∷ v) = summed.Refused (suc e)
summed_from (zero ∷ suc b ∷ n ∷ v) = summed.Yes n
summed_from (zero ∷ suc b ∷ []) = summed.No
summed_from (zero ∷ zero ∷ v) = summed.No
summed_from (zero ∷ []) = summed.No
summed_from [] = summed.No

summed_back : (x : Summed) (after : List ℕ) → NotByZero (seen_summed x after) → summed_from (summed_numbers x) ≡ x
unfolding summed_from
summed_back (summed.Refused zero) after h = absurd (omega arith)
summed_back (summed.Refused (suc e)) after h = refl
summed_back (summed.Yes n) after h = refl
summed_back summed.No after h = refl

pub summed_differ : (x y : Summed) (u v : List ℕ) → NotByZero (seen_summed x u) → NotByZero (seen_summed y v) → summed_numbers x ≡ summed_numbers y → x ≡ y
summed_differ x y u v n m e = numbers_differ summed_from (summed_back x u n) (summed_back y v m) e
