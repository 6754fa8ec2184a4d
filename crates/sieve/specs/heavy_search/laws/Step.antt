-- One dimension missing, number by number.
--   held_child               the basis of the generators in the child, from that of the space
--   step_none, step-done     the child is no space for k; its first new number is marked
--   Closing                  == the picked numbers below i are done; closing_start, closing_next, closing_end
-- Assumes nothing.
use Rattle.std.specs.Prelude.{◌≡◌, ◌≢◌, List, map, ℕ, ◌+◌, ◌<◌, ◌≤◌, length, get_or}
use Rattle.std.proofs.Common.{sym, ap, ◌∙◌, subst, arith}
use Rattle.std.proofs.Math.Decide.{dec_lt, ℕ_discrete}
use Rattle.linear.specs.Basis.{clear, inserts, basis_of, dim}
use Rattle.linear.specs.Word.{word}
use Rattle.bases.specs.Basis.{rows_of, Holds}
use Rattle.bases.specs.declared.Basis.{Basis}
use Rattle.residues.proofs.laws.Held.{holds_length}
use Rattle.residues.specs.children.Residues.{with_residue}
use Rattle.residues.specs.children.Found.{MetBy, Fair, Grown, FoundBy}
use Rattle.residues.proofs.laws.of_children.Found.{by_grown, by_none}
use Rattle.residues.proofs.laws.of_children.Handed.{child_basis}
use Rattle.sieve.specs.heavy_search.Find.{Closed}

pub held_child : (gens d : List ℕ) (x : ℕ) (s b : Basis) → x ≢ 0 → Holds (basis_of word (with_residue 0 gens d)) s
    → Holds (inserts word (rows_of s) (with_residue x gens d)) b
    → Holds (basis_of word (with_residue 0 gens (map (clear word x) d))) b
held_child gens d x s b ne S H = record {
  valid = H.valid;
  is = H.is ∙ ap (λ (B : List ℕ). inserts word B (with_residue x gens d))
      S.is ∙ child_basis x gens d ne;
}

pub step_none : (gens h d : List ℕ) (start k : ℕ) (dead : List ℕ) (n : ℕ) (s b : Basis) (marks : List ℕ) → Holds (basis_of word (with_residue 0 gens d)) s
    → Holds (inserts word (rows_of s) (with_residue (get_or d n 0) gens d)) b → b.len ≢ k → FoundBy gens h d start k 0 dead n marks marks
unfolding dim
step_none gens h d start k dead n s b marks S H other =
    by_none gens h d start k dead n marks
    (λ ne e. other (holds_length (basis_of word (with_residue 0 gens (map (clear word (get_or d n 0)) d))) b (held_child gens d (get_or d n 0) s b ne S H) ∙ e))

-- ---- number by number
pub record Closing (gens h d : List ℕ) (start k : ℕ) (gone picks marks₀ : List ℕ) (j : ℕ) (marks : List ℕ) : Type 0 where
  pub from : start ≤ j
  pub to : j ≤ length gens
  pub done : (i : ℕ) → start ≤ i → i < j → get_or picks i 0 ≢ 0 → get_or d i 0 ≢ 0 → MetBy gens h d start k 0 gone i marks
  pub grown : Grown marks₀ marks
  pub fair : Fair h marks₀ → Fair h marks

module _ (gens h d : List ℕ) (start k : ℕ) (gone picks marks₀ : List ℕ) where
  pub closing_start : (j : ℕ) → start ≤ j → j ≤ length gens → ((i : ℕ) → start ≤ i → i < j → get_or picks i 0 ≡ 0)
      → Closing gens h d start k gone picks marks₀ j marks₀
  closing_start j a b f = record { from = a; to = b; done = λ i c l p. absurd (p (f i c l)); grown = record { stays = λ i n. n }; fair = λ F. F }

  pub closing_next : (j r : ℕ) (marks marks' : List ℕ) → Closing gens h d start k gone picks marks₀ j marks
      → FoundBy gens h d start k 0 gone j marks marks' → j + 1 ≤ r → r ≤ length gens
      → ((i : ℕ) → j + 1 ≤ i → i < r → get_or picks i 0 ≡ 0) → Closing gens h d start k gone picks marks₀ r marks'
  closing_next j r marks marks' C F a b f =
      record {
        from = omega (arith, C.from);
        to = b;
        done = λ i c l p ne. go i c l p ne (dec_lt i j) (ℕ_discrete i j);
        grown = record { stays = λ i n. F.grown.stays i (C.grown.stays i n) };
        fair = λ A. F.fair (C.fair A);
      }
    where
      go : (i : ℕ) → start ≤ i → i < r → get_or picks i 0 ≢ 0 → get_or d i 0 ≢ 0 → Dec (i < j) → Dec (i ≡ j) → MetBy gens h d start k 0 gone i marks'
      go i c l p ne (yes e) q = by_grown gens h d start k 0 gone i marks marks' F.grown (C.done i c e p ne)
      go i c l p ne (no e) (yes q) = subst (λ (x : ℕ). MetBy gens h d start k 0 gone x marks') (sym q) (F.met (subst (λ (x : ℕ). get_or d x 0 ≢ 0) q ne))
      go i c l p ne (no e) (no q) = absurd (p (f i (omega arith) l))

  pub closing_end : (j : ℕ) (marks : List ℕ) → Closing gens h d start k gone picks marks₀ j marks → length gens ≤ j
      → Closed gens h d start k gone picks marks₀ marks
  closing_end j marks C l = record { met = λ i a b. C.done i a (omega arith); grown = C.grown; fair = C.fair }
