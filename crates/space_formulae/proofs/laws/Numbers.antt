-- The numbers of a reply on a space's formulae.
--   formulae_told      what is seen as the definition says has its numbers
--   formulae_differ    distinct replies have distinct numbers
--   formulae_numbered  the call is never refused by 0
-- Assumes nothing.
use Rattle.std.specs.Prelude.{◌≡◌, refl, not, List, [], ◌∷◌, ℕ, zero, suc, ◌+◌, length, ltb}
use Rattle.std.proofs.Common.{arith}
use Rattle.kinds.specs.Refusal.{Answer}
use Rattle.kinds.specs.Numbers.{reply_numbers, NotByZero}
use Rattle.kinds.specs.laws.Numbers.{told_lent, numbers_differ, refuse_numbered, follow_numbered}
use Rattle.linear.specs.Basis.{dim}
use Rattle.linear.specs.Word.{word}
use Rattle.problems.specs.Problem.{posed}
use Rattle.problems.proofs.laws.Numbered.{posed_numbered}
use Rattle.space_formulae.specs.spaces.Spaces.{Formulae, is_entry, formulae_for, formulae_of, seen_formulae, formulae_numbers, formulae_values}
use Rattle.space_formulae.specs.declared.spaces.Listed.{Listed as Reply}
use Rattle.space_formulae.specs.declared.spaces.Listed.TheVariants as reply

formulae_numbers_law : (x : Reply) (after : List ℕ) → formulae_numbers x ≡ reply_numbers 2 formulae_values (seen_formulae x after)
formulae_numbers_law (reply.Refused e) after = refl
formulae_numbers_law (reply.All n) after = refl
formulae_numbers_law (reply.More n) after = refl

pub formulae_told : {o : Answer Formulae} {L : Type 0} (x : Reply) (after : List ℕ) → (o ≡ seen_formulae x after) × L
    → (o ≡ seen_formulae x after) × L × (formulae_numbers x ≡ reply_numbers 2 formulae_values o)
formulae_told x after R = told_lent 2 formulae_values (formulae_numbers_law x after) R

-- the reply with those numbers
from : List ℕ → Reply
from (suc e ∷ v) = reply.Refused (suc e)
from (zero ∷ zero ∷ n ∷ v) = reply.All n
from (zero ∷ suc m ∷ n ∷ v) = reply.More n
from (zero ∷ m ∷ []) = reply.Refused 0
from (zero ∷ []) = reply.Refused 0
from [] = reply.Refused 0

back : (x : Reply) (after : List ℕ) → NotByZero (seen_formulae x after) → from (formulae_numbers x) ≡ x
unfolding from
back (reply.Refused zero) after h = absurd (omega arith)
back (reply.Refused (suc e)) after h = refl
back (reply.All n) after h = refl
back (reply.More n) after h = refl

pub formulae_differ : (x y : Reply) (u v : List ℕ) → NotByZero (seen_formulae x u) → NotByZero (seen_formulae y v)
    → formulae_numbers x ≡ formulae_numbers y → x ≡ y
formulae_differ x y u v n m e = numbers_differ from (back x u n) (back y v m) e

pub formulae_numbered : (number p q r : ℕ) (gs ts rows old : List ℕ) → NotByZero (formulae_of number p q r gs ts rows old)
unfolding formulae_of formulae_for
formulae_numbered number p q r gs ts rows old =
    follow_numbered (posed number p q r gs ts rows) _ (posed_numbered number p q r gs ts rows) λ x.
    refuse_numbered 8 (ltb (dim word x.targets + 6) (length rows)) _ (omega arith)
    (refuse_numbered 10 (not (is_entry x.generators x.targets rows)) _ (omega arith) tt)
