-- What is met over a number at once.
--   ready_of                               what is taken is ready
--   near_flagged                           a dead number has the value
--   near_none, near_last, near_two         one dimension missing, and no space for k, or its number marked; two
--   near_child                             more: the child's residues are there
-- Assumes nothing.
use Rattle.std.specs.Prelude.{◌≡◌, refl, ◌≢◌, true, false, List, map, ℕ, ◌-◌, length, get_or}
use Rattle.std.proofs.Common.{sym, ◌∙◌, subst, true≢false, arith}
use Rattle.std.proofs.lemmas.Bool.{false≢true}
use Rattle.linear.specs.Basis.{clear, basis_of, dim}
use Rattle.linear.specs.Word.{word}
use Rattle.bases.specs.Basis.{Holds}
use Rattle.bases.specs.declared.Basis.{Basis}
use Rattle.residues.specs.Mapped.{Mapped}
use Rattle.residues.specs.Taking.{Took}
use Rattle.residues.specs.declared.Taken.{Taken}
use Rattle.residues.proofs.laws.Held.{holds_length}
use Rattle.residues.specs.children.Residues.{with_residue}
use Rattle.residues.specs.children.Found.{FoundBy, Finished}
use Rattle.residues.proofs.laws.of_children.Found.{by_shared, by_none, by_finished}
use Rattle.sieve.specs.heavy_search.Find.{ChildBasis, Neared}
use Rattle.sieve.specs.heavy_search.laws.Step.{held_child}

pub ready_of : (gens d : List ℕ) (j : ℕ) (s : Basis) (gone : List ℕ) (t : Taken) → get_or d j 0 ≢ 0 → Holds (basis_of word (with_residue 0 gens d)) s
    → Took gens d (get_or d j 0) s gone t → ChildBasis gens d j gone t
ready_of gens d j s gone t ne S T = record { shared = T.shared; held = λ e. held_child gens d (get_or d j 0) s t.basis ne S (T.held e) }

module _ (gens h d : List ℕ) (j start k m : ℕ) (t : Taken) (gone marks : List ℕ) (R : ChildBasis gens d j gone t) where
  done : (mine marks' : List ℕ) → FoundBy gens h d start k (m - 1) gone j marks marks' → Neared gens h d j start k m t gone marks mine marks' false
  done mine marks' F =
      record {
        done = λ e. F;
        child = λ e. absurd (false≢true e);
        same = λ e. absurd (false≢true e);
        basis = λ e. absurd (false≢true e);
        deep = λ e. absurd
            (false≢true e);
      }

  pub near_flagged : (mine : List ℕ) → t.flagged ≡ true → Neared gens h d j start k m t gone marks mine marks false
  near_flagged mine e = done mine marks (by_shared gens h d start k (m - 1) gone j marks (R.shared e))

  -- with one or two dimensions missing
  at : (mine marks' : List ℕ) (n : ℕ) → m - 1 ≡ n → FoundBy gens h d start k n gone j marks marks'
      → Neared gens h d j start k m t gone marks mine marks' false
  at mine marks' n e F = done mine marks' (subst (λ (l : ℕ). FoundBy gens h d start k l gone j marks marks') (sym e) F)

  pub near_none : (mine : List ℕ) → m ≡ 1 → t.flagged ≡ false → t.basis.len ≢ k → Neared gens h d j start k m t gone marks mine marks false
  unfolding dim
  near_none mine e f other =
      at mine marks 0 (omega arith)
      (by_none gens h d start k gone j marks (λ ne q. other (holds_length (basis_of word (with_residue 0 gens (map (clear word (get_or d j 0)) d))) t.basis
      (R.held f) ∙ q)))

  pub near_last : (mine marks' : List ℕ) → m ≡ 1 → length gens ≡ length h → Finished h (map (clear word (get_or d j 0)) d) start marks marks'
      → Neared gens h d j start k m t gone marks mine marks' false
  near_last mine marks' e alike F = at mine marks' 0 (omega arith) (by_finished gens h d start k gone j alike marks marks' F)

  pub near_two : (mine marks' : List ℕ) → m ≡ 2 → FoundBy gens h d start k 1 gone j marks marks' → Neared gens h d j start k m t gone marks mine marks' false
  near_two mine marks' e F = at mine marks' 1 (omega arith) F

  pub near_child : (mine : List ℕ) → m ≢ 0 → m ≢ 1 → m ≢ 2 → t.flagged ≡ false → Mapped (clear word (get_or d j 0)) d mine
      → Neared gens h d j start k m t gone marks mine marks true
  near_child mine a b c f M =
      record { done = λ e. absurd (true≢false e); child = λ e. M; same = λ e. refl; basis = λ e. f; deep = λ e. omega arith }
