-- The numbers of Rank's reply.
--   rank_told      what is seen as the definition says has its numbers
--   rank_differ    distinct replies have distinct numbers
--   rank_numbered  Rank is never refused by 0
-- Assumes nothing.
use Rattle.std.specs.Prelude.{◌≡◌, refl, not, List, [], ◌∷◌, ℕ, zero, suc, ◌+◌, length, eqb, ltb}
use Rattle.std.proofs.Common.{arith}
use Rattle.kinds.specs.Refusal.{Answer}
use Rattle.kinds.specs.Numbers.{reply_numbers, NotByZero}
use Rattle.kinds.specs.laws.Numbers.{told_lent, numbers_differ, refuse_numbered, follow_numbered}
use Rattle.linear.specs.Formulae as formulae
use Rattle.linear.specs.Formulae.{Fewest, fewest}
use Rattle.linear.specs.Word.{word}
use Rattle.problems.specs.prices.Prices.{priced}
use Rattle.problems.proofs.laws.of_prices.Numbered.{priced_numbered}
use Rattle.rank.specs.Rank.{rank_for, rank}
use Rattle.rank.specs.fewest.Fewest.{Ranking, written, ranking, seen_ranked, rank_numbers, rank_values}
use Rattle.rank.specs.declared.fewest.Ranked.{Ranked}
use Rattle.rank.specs.declared.fewest.Ranked.TheVariants as ranked

rank_numbers_law : (x : Ranked) (after : List ℕ) → rank_numbers x ≡ reply_numbers 2 rank_values (seen_ranked x after)
rank_numbers_law (ranked.Refused e) after = refl
rank_numbers_law (ranked.Is r) after = refl
rank_numbers_law ranked.Above after = refl
rank_numbers_law ranked.Beyond after = refl

pub rank_told : {o : Answer Ranking} {L : Type 0} (x : Ranked) (after : List ℕ) → (o ≡ seen_ranked x after) × L
    → (o ≡ seen_ranked x after) × L × (rank_numbers x ≡ reply_numbers 2 rank_values o)
rank_told x after R = told_lent 2 rank_values (rank_numbers_law x after) R

-- the reply with those numbers
from : List ℕ → Ranked
from (suc e ∷ v) = ranked.Refused (suc e)
from (zero ∷ zero ∷ r ∷ v) = ranked.Is r
from (zero ∷ suc zero ∷ v) = ranked.Above
from (zero ∷ suc (suc n) ∷ v) = ranked.Beyond
from (zero ∷ zero ∷ []) = ranked.Beyond
from (zero ∷ []) = ranked.Beyond
from [] = ranked.Beyond

back : (x : Ranked) (after : List ℕ) → NotByZero (seen_ranked x after) → from (rank_numbers x) ≡ x
unfolding from
back (ranked.Refused zero) after h = absurd (omega arith)
back (ranked.Refused (suc e)) after h = refl
back (ranked.Is r) after h = refl
back ranked.Above after h = refl
back ranked.Beyond after h = refl

pub rank_differ : (x y : Ranked) (u v : List ℕ) → NotByZero (seen_ranked x u) → NotByZero (seen_ranked y v) → rank_numbers x ≡ rank_numbers y → x ≡ y
rank_differ x y u v n m e = numbers_differ from (back x u n) (back y v m) e

written_numbered : (gens targets old : List ℕ) (f : Fewest) → NotByZero (written gens targets old f)
written_numbered gens targets old (formulae.formula es) = refuse_numbered 9 (ltb (length old) (length es + length targets)) _ (omega arith) tt
written_numbered gens targets old formulae.above = tt
written_numbered gens targets old formulae.beyond = tt

pub rank_numbered : (number p q r k : ℕ) (gs ts costs old : List ℕ) → NotByZero (rank number p q r k gs ts costs old)
unfolding rank rank_for ranking
rank_numbered number p q r k gs ts costs old =
    follow_numbered (priced number p q r gs ts costs) _ (priced_numbered number p q r gs ts costs) λ x.
    refuse_numbered 8 (not (eqb k 0)) _ (omega arith)
    (written_numbered x.problem.generators x.problem.targets old (fewest word x.problem.generators x.problem.targets x.prices))
