-- The search, step by step.
--   Looking                                == no number so far is new by h and not by d; looking_start, looking_more, looking_found, looking_end
--   finish_off, finish_known, finish_on    what is finished: where there is no new number, one that is known, one that is marked
-- Assumes nothing.
use Rattle.std.specs.Prelude.{◌≡◌, ◌≢◌, true, false, List, ℕ, ◌+◌, ◌<◌, ◌≤◌, length, get_or, set}
use Rattle.std.proofs.Common.{sym, ap, ◌∙◌, subst, true≢false, arith, get_or-set_same, get_or-set_other}
use Rattle.std.proofs.Math.Decide.{dec_lt, ℕ_discrete}
use Rattle.residues.specs.children.Residues.{known}
use Rattle.residues.specs.children.Found.{Fair, Finished}
use Rattle.sieve.specs.heavy_search.Find.{FirstNew}

-- ---- the first new number
pub record Looking (h d : List ℕ) (start j : ℕ) : Type 0 where
  pub from : start ≤ j
  pub to : j ≤ length h
  pub none : (i : ℕ) → start ≤ i → i < j → get_or d i 0 ≡ 0 → get_or h i 0 ≡ 0

pub looking_start : (h d : List ℕ) (start : ℕ) → start ≤ length h → Looking h d start start
looking_start h d start l = record { from = omega arith; to = l; none = λ i a b. absurd (omega arith) }

module _ (h d : List ℕ) (start j : ℕ) (L : Looking h d start j) where
  pub looking_more : j < length h → (get_or d j 0 ≡ 0 → get_or h j 0 ≡ 0) → Looking h d start (j + 1)
  looking_more l f = record { from = omega (arith, L.from); to = omega arith; none = λ i a b. go i a b (ℕ_discrete i j) }
    where
      go : (i : ℕ) → start ≤ i → i < j + 1 → Dec (i ≡ j) → get_or d i 0 ≡ 0 → get_or h i 0 ≡ 0
      go i a b (yes e) = subst (λ (x : ℕ). get_or d x 0 ≡ 0 → get_or h x 0 ≡ 0) (sym e) f
      go i a b (no n) = L.none i a (omega arith)

  pub looking_found : get_or d j 0 ≡ 0 → get_or h j 0 ≢ 0 → FirstNew h d start j
  looking_found z n = record { from = L.from; to = L.to; none = L.none; zero_there = λ l. z; new_here = λ l. n }

  pub looking_end : length h ≤ j → FirstNew h d start j
  looking_end l = record { from = L.from; to = L.to; none = L.none; zero_there = λ k. absurd (omega arith); new_here = λ k. absurd (omega arith) }

-- ---- what is finished
module _ (h d : List ℕ) (start r : ℕ) (marks : List ℕ) (F : FirstNew h d start r) where
  -- a number that is new by h and not by d, and the first such, is r
  only : (j : ℕ) → start ≤ j → j < length h → get_or h j 0 ≢ 0 → get_or d j 0 ≡ 0 → ((i : ℕ) → i < j → get_or d i 0 ≡ 0 → get_or h i 0 ≡ 0) → j ≡ r
  only j a l n z f = go (dec_lt j r) (dec_lt r j)
    where
      go : Dec (j < r) → Dec (r < j) → j ≡ r
      go (yes b) e = absurd (n (F.none j a b z))
      go (no b) (yes e) = let k : r < length h = omega arith in absurd (F.new_here k (f r e (F.zero_there k)))
      go (no b) (no e) = omega arith

  pub finish_off : r ≡ length h → Finished h d start marks marks
  finish_off q = record { first = λ j a l n z u f. absurd (omega (arith, only j a l n z f)); grown = record { stays = λ j n. n }; fair = λ A. A }

  pub finish_known : true ≡ known h r → Finished h d start marks marks
  finish_known q =
      record {
        first = λ j a l n z u f. absurd (true≢false (q ∙ ap (known h) (sym (only j a l n z f)) ∙ sym u));
        grown = record { stays = λ j n. n };
        fair = λ A. A;
      }

  pub finish_on : r < length marks → false ≡ known h r → Finished h d start marks (set marks r 1)
  finish_on l u =
      record {
        first = λ j a b n z v f. on j (only j a b n z f);
        grown = record { stays = λ i n. stay i n (ℕ_discrete i r) };
        fair = λ A. record { on = λ i n. fair A i n (ℕ_discrete i r) };
      }
    where
      on : (j : ℕ) → j ≡ r → get_or (set marks r 1) j 0 ≢ 0
      on j e z = omega (arith, get_or-set_same marks r 1 0 l, ap (λ (x : ℕ). get_or (set marks r 1) x 0) e, z)

      stay : (i : ℕ) → get_or marks i 0 ≢ 0 → Dec (i ≡ r) → get_or (set marks r 1) i 0 ≢ 0
      stay i n (yes e) = on i e
      stay i n (no e) = λ z. n (sym (get_or-set_other marks r i 1 0 e) ∙ z)

      fair : Fair h marks → (i : ℕ) → get_or (set marks r 1) i 0 ≢ 0 → Dec (i ≡ r) → false ≡ known h i
      fair A i n (yes e) = subst (λ (x : ℕ). false ≡ known h x) (sym e) u
      fair A i n (no e) = A.on i (λ z. n (get_or-set_other marks r i 1 0 e ∙ z))
