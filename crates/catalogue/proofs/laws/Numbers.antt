-- The numbers of Catalogue's reply.
--   catalogue_told      what is seen as the definition says has its numbers
--   catalogue_differ    distinct replies have distinct numbers
--   catalogue_numbered  Catalogue is never refused by 0
-- Assumes nothing.
use Rattle.std.specs.Prelude.{◌≡◌, refl, List, [], ◌∷◌, ℕ, zero, suc, ◌+◌, ltb}
use Rattle.std.proofs.Common.{arith}
use Rattle.kinds.specs.Refusal.{Answer}
use Rattle.kinds.specs.Numbers.{reply_numbers, NotByZero}
use Rattle.kinds.specs.laws.Numbers.{told_lent, numbers_differ, refuse_numbered, follow_numbered}
use Rattle.linear.specs.Basis.{dim}
use Rattle.linear.specs.Word.{word}
use Rattle.problems.specs.Problem.{posed}
use Rattle.problems.proofs.laws.Numbered.{posed_numbered}
use Rattle.catalogue.specs.Catalogue.{Catalogued, catalogue_of, catalogue, seen_catalogue, catalogue_numbers, catalogue_values}
use Rattle.catalogue.specs.declared.Catalogued.{Catalogued as Reply}
use Rattle.catalogue.specs.declared.Catalogued.TheVariants as reply

catalogue_numbers_law : (x : Reply) (after : List ℕ) → catalogue_numbers x ≡ reply_numbers 3 catalogue_values (seen_catalogue x after)
catalogue_numbers_law (reply.Refused e) after = refl
catalogue_numbers_law (reply.Entries l f s) after = refl

pub catalogue_told : {o : Answer Catalogued} {L : Type 0} (x : Reply) (after : List ℕ) → (o ≡ seen_catalogue x after) × L
    → (o ≡ seen_catalogue x after) × L × (catalogue_numbers x ≡ reply_numbers 3 catalogue_values o)
catalogue_told x after R = told_lent 3 catalogue_values (catalogue_numbers_law x after) R

-- the reply with those numbers
from : List ℕ → Reply
from (suc e ∷ v) = reply.Refused (suc e)
from (zero ∷ l ∷ f ∷ s ∷ v) = reply.Entries l f s
from (zero ∷ l ∷ f ∷ []) = reply.Refused 0
from (zero ∷ l ∷ []) = reply.Refused 0
from (zero ∷ []) = reply.Refused 0
from [] = reply.Refused 0

back : (x : Reply) (after : List ℕ) → NotByZero (seen_catalogue x after) → from (catalogue_numbers x) ≡ x
unfolding from
back (reply.Refused zero) after h = absurd (omega arith)
back (reply.Refused (suc e)) after h = refl
back (reply.Entries l f s) after h = refl

pub catalogue_differ : (x y : Reply) (u v : List ℕ) → NotByZero (seen_catalogue x u) → NotByZero (seen_catalogue y v)
    → catalogue_numbers x ≡ catalogue_numbers y → x ≡ y
catalogue_differ x y u v n m e = numbers_differ from (back x u n) (back y v m) e

pub catalogue_numbered : (number p q r k : ℕ) (gs ts old : List ℕ) → NotByZero (catalogue number p q r k gs ts old)
unfolding catalogue catalogue_of
catalogue_numbered number p q r k gs ts old =
    follow_numbered (posed number p q r gs ts []) _ (posed_numbered number p q r gs ts []) λ x.
    refuse_numbered 8 (ltb (dim word x.targets + 6) k) _ (omega arith) tt
