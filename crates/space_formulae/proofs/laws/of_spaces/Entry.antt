-- Which rows are those of a solution space.
--   is_entry_law                      the test is true exactly for them
--   Rows gens targets rows r      == r is the test's value; and rows that pass are at most 64
--   rows_other, rows_short, rows_judged   rows that are not reduced; not enough generators inside; else the targets decide
-- Assumes nothing.
use Rattle.std.specs.Prelude.{◌≡◌, refl, ◌↔◌, Bool, ◌&&◌, ℕ, ◌≤◌, leb}
use Rattle.std.proofs.Math.Path.{sym, ap, ap₂, subst}
use Rattle.std.proofs.Common.{◌∙◌, arith}
use Rattle.std.proofs.Math.Bool.{true, false, not, and-eq-true_iff}
use Rattle.std.proofs.lemmas.Bool.{false≢true}
use mathlib.Core.List.{List, []}
use Rattle.std.proofs.Math.ListN.{length}
use Rattle.std.proofs.Math.Dec.{eqb}
use borrow.Author.Tests.{eq-eqb, eqb-true, eqb-false, le-leb, lt-leb, not-true, not-false}
use Rattle.linear.specs.Basis.{basis_of, Reduced, dim}
use Rattle.linear.specs.Select.{any_of}
use Rattle.linear.specs.Entry.{same_basis, inside, generators_in, fits, Solution}
use Rattle.linear.specs.Spread.{later, completes}
use Rattle.linear.specs.Word.{word}
use Rattle.linear.proofs.laws.Insert.{basis_of_reduced}
use Rattle.linear.proofs.laws.Dimension.{basis_of_is, dim_le}
use Rattle.linear.proofs.laws.Select.{any_of_no, no_any_of}
use Rattle.linear.proofs.laws.Entry.{same_basis_yes, same_yes, inside_yes, yes_inside, fits_yes, yes_fits, generators_in_within}
use Rattle.bases.specs.declared.Basis.{Basis}
use Rattle.bases.specs.Basis.{rows_of, Holds, rows_length}
use Rattle.space_formulae.specs.spaces.Spaces.{is_entry, Rows}

-- of two numbers, where the first is at most the second
test_same : (d k : ℕ) → d ≤ k → eqb d k ≡ leb k d
test_same d k h = go (eqb d k) refl
  where
    go : (t : Bool) → eqb d k ≡ t → t ≡ leb k d
    go true e = sym (le-leb k d (let z = eqb-true d k e in omega arith))
    go false e = sym (lt-leb k d (let z = eqb-false d k e in omega arith))

module _ (gens targets rows : List ℕ) where
  abbrev outside : ℕ → Bool
  outside t = not (inside word rows t)

  pub is_entry_law : (is_entry gens targets rows ≡ true) ↔ Solution word gens targets (length rows) rows
  unfolding is_entry
  is_entry_law = (sound, complete)
    where
      sound : same_basis word (basis_of word rows) rows && (fits word gens (length rows) rows && not (any_of outside targets)) ≡ true → Solution word gens targets (length rows) rows
      sound e =
          let a = (and-eq-true_iff (same_basis word (basis_of word rows) rows) (fits word gens (length rows) rows && not (any_of outside targets))).0 e in
          let b = (and-eq-true_iff (fits word gens (length rows) rows) (not (any_of outside targets))).0 a.1 in
          let ρ : Reduced word rows = subst (Reduced word) (same_basis_yes word (basis_of word rows) rows a.0) (basis_of_reduced word rows) in
          let f = fits_yes word gens (length rows) rows ρ b.0 in
          record {
            reduced = ρ;
            size = refl;
            holds = (λ t m. inside_yes word rows t (not-false (inside word rows t) (any_of_no outside targets (not-true (any_of outside targets) b.1) t m)));
            spanned = f.1;
          }

      complete : Solution word gens targets (length rows) rows → same_basis word (basis_of word rows) rows && (fits word gens (length rows) rows && not (any_of outside targets)) ≡ true
      complete E =
          ap₂ ◌&&◌ (same_yes word (basis_of word rows) rows (basis_of_is word rows rows E.reduced (λ v s. s) (λ v s. s)))
          (ap₂ (λ (x y : Bool). x && not y) (yes_fits word gens (length rows) rows E.reduced refl E.spanned)
          (no_any_of outside targets (λ t m. ap not (yes_inside word rows E.reduced t (E.holds t m)))))

  -- ---- the test as the code makes it
  pub rows_other : (b : Basis) → Holds (basis_of word rows) b → (s : Bool) → s ≡ same_basis word (rows_of b) rows → not s ≡ true → Rows gens targets rows false
  unfolding is_entry
  rows_other b H s q z =
      let e : same_basis word (rows_of b) rows ≡ false = sym q ∙ not-true s z in
      record {
        is = sym (ap (λ (t : Bool). t && (fits word gens (length rows) rows && not (any_of outside targets))) (ap (λ (B : List ℕ). same_basis word B rows) (sym H.is) ∙ e));
        room = (λ q. absurd (false≢true q));
      }

  module _ (b : Basis) (H : Holds (basis_of word rows) b) (s : Bool) (same : s ≡ same_basis word (rows_of b) rows) (z : not s ≡ false) (d : Basis) (D : Holds [] d) (r : Bool)
      (full : r ≡ completes word gens rows (rows_of d) 0) where
    e : same_basis word (rows_of b) rows ≡ true
    e = sym same ∙ not-false s z

    full_is : completes word gens rows [] 0 ≡ r
    full_is = ap (λ (C : List ℕ). completes word gens rows C 0) (sym D.is) ∙ sym full

    own : rows_of b ≡ rows
    own = same_basis_yes word (rows_of b) rows e

    few : length rows ≤ 64
    few = omega (arith, rows_length b H.valid, ap length own, H.valid.room)

    reduced : Reduced word rows
    reduced = subst (Reduced word) own H.valid.reduced

    -- the generators inside span no more than the space; so they span it if they have as many dimensions
    most : dim word (generators_in word gens rows) ≤ length rows
    most =
        let d : dim word rows ≡ length rows = (unfold dim in ap length (basis_of_is word rows rows reduced (λ v s. s) (λ v s. s))) in
        omega (arith, d, dim_le word (generators_in word gens rows) rows (generators_in_within word gens rows))

    enough : fits word gens (length rows) rows ≡ completes word gens rows [] 0
    unfolding fits completes later generators_in dim basis_of
    enough =
        ap (λ (t : Bool). t && eqb (dim word (generators_in word gens rows)) (length rows)) (eq-eqb (length rows) (length rows) refl)
        ∙ test_same (dim word (generators_in word gens rows)) (length rows) most

    test : is_entry gens targets rows ≡ (completes word gens rows [] 0 && not (any_of (λ t. not (inside word (rows_of b) t)) targets))
    unfolding is_entry
    test =
        ap₂ (λ (x y : Bool). x && (y && not (any_of outside targets))) (ap (λ (B : List ℕ). same_basis word B rows) (sym H.is) ∙ e) enough
        ∙ ap (λ (B : List ℕ). completes word gens rows [] 0 && not (any_of (λ t. not (inside word B t)) targets)) (sym own)

    pub rows_short : not r ≡ true → Rows gens targets rows false
    rows_short y =
        let q : completes word gens rows [] 0 ≡ false = full_is ∙ not-true r y in
        record {
          is = sym (test ∙ ap (λ (x : Bool). x && not (any_of (λ t. not (inside word (rows_of b) t)) targets)) q);
          room = (λ z. absurd (false≢true z));
        }

    pub rows_judged : not r ≡ false → (m : Bool) → m ≡ any_of (λ t. not (inside word (rows_of b) t)) targets → Rows gens targets rows (not m)
    rows_judged y m f =
        let q : completes word gens rows [] 0 ≡ true = full_is ∙ not-false r y in
        record {
          is = ap not f ∙ sym (test ∙ ap (λ (x : Bool). x && not (any_of (λ t. not (inside word (rows_of b) t)) targets)) q);
          room = (λ z. few);
        }
