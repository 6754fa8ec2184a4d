-- Two dimensions missing, beside a value.
--   pairs_at        the residues of the child, and its basis, are a space's
--   pairs_picked    what the join leaves
--   pairs_none      nothing is left
--   pairs_closed    what is left is done
-- Assumes nothing.
use Rattle.std.specs.Prelude.{◌≡◌, List, map, ℕ, ◌-◌, ◌<◌, ◌≤◌, length, get_or, take}
use Rattle.std.proofs.Common.{sym, ◌∙◌, subst, arith}
use Rattle.std.proofs.Math.Path.{ap}
use Rattle.std.proofs.lemmas.List.{length-map}
use Rattle.linear.specs.Basis.{clear, basis_of, dim}
use Rattle.linear.specs.Word.{word}
use Rattle.bases.specs.Basis.{Holds}
use Rattle.bases.specs.declared.Basis.{Basis}
use Rattle.residues.specs.Mapped.{Mapped}
use Rattle.residues.proofs.laws.Held.{holds_length}
use Rattle.residues.specs.children.Residues.{with_residue}
use Rattle.residues.specs.children.Found.{FoundBy}
use Rattle.residues.specs.children.Weighed.{Joined, PickedBy}
use Rattle.residues.proofs.laws.of_children.Found.{closed_met}
use Rattle.residues.proofs.laws.of_children.Join.{joined_picked}
use Rattle.weights.specs.Table.{weight_of}
use Rattle.sieve.specs.heavy_search.Find.{At, Closed, Pairing}

-- the child's array
pub mapped_child : (gens d mine : List ℕ) (x : ℕ) → length gens ≡ length d → Mapped (clear word x) d mine → take (length gens) mine ≡ map (clear word x) d
mapped_child gens d mine x e M = ap (λ (n : ℕ). take n mine) e ∙ M.is

module _ (gens h d : List ℕ) (j start k : ℕ) (b : Basis) (gone slots w picks₀ mine₀ marks : List ℕ)
    (P : Pairing gens h d j start gone slots w picks₀ mine₀ marks)
    (H : Holds (basis_of word (with_residue 0 gens (map (clear word (get_or d j 0)) d))) b) where
  abbrev x : ℕ
  x = get_or d j 0

  abbrev E : List ℕ
  E = map (clear word x) d

  pub pairs_at : (e : List ℕ) → e ≡ E → At gens h e start b gone marks
  pairs_at e q =
      subst (λ (l : List ℕ). At gens h l start b gone marks) (sym q)
      (record {
        sizes = record {
          alike = P.sizes.alike;
          over = P.sizes.over ∙ sym (length-map d (clear word x));
          few = P.sizes.few;
          begin = P.sizes.begin;
          gone_all = P.sizes.gone_all;
          marks_all = P.sizes.marks_all;
        };
        held = H;
      })

  pub pairs_picked : (left : ℕ) → left ≡ k - b.len → (picks : List ℕ) → Joined d start x left gone w (weight_of slots d w) picks
      → PickedBy gens d start k 1 gone j picks
  unfolding dim
  pairs_picked left le picks J =
      joined_picked gens d start k gone w (weight_of slots d w) P.sizes.over P.weighed j P.value left
      (le ∙ ap (λ (n : ℕ). k - n) (holds_length (basis_of word (with_residue 0 gens E)) b H)) picks J

  pub pairs_none : (picks : List ℕ) → PickedBy gens d start k 1 gone j picks → ((i : ℕ) → start ≤ i → i < length d → get_or picks i 0 ≡ 0)
      → FoundBy gens h d start k 1 gone j marks marks
  pairs_none picks Q none =
      record {
        met = λ ne. closed_met gens h d start k 1 gone j picks marks ne Q (λ i a l p. absurd (p (none i a (omega (arith, P.sizes.over)))));
        grown = record { stays = λ i n. n };
        fair = λ F. F;
      }

  pub pairs_closed : (picks marks' e : List ℕ) → e ≡ E → PickedBy gens d start k 1 gone j picks → Closed gens h e start k gone picks marks marks'
      → FoundBy gens h d start k 1 gone j marks marks'
  pairs_closed picks marks' e q Q C =
      record {
        met = λ ne. closed_met gens h d start k 1 gone j picks marks' ne Q (subst (λ (l : List ℕ). Closed gens h l start k gone picks marks marks') q C).met;
        grown = C.grown;
        fair = C.fair;
      }
