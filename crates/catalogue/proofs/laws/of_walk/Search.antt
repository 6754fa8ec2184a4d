-- What the walk meets, one number after the other.
--   search_is                      from the targets' space it meets the entries
--   leaf_yes, leaf_no              no number is missing: an entry, or none
--   turn_end                       there is no number left
--   turn_skip, turn_down           a known number is passed over; another is gone into
--   turn_drop                      nothing comes of a number whose child is barren
-- Assumes nothing.
use Rattle.std.specs.Prelude.{◌≡◌, ◌≢◌, Bool, cond, length}
use Rattle.std.proofs.Math.Path.{refl, sym, ap}
use Rattle.std.proofs.Common.{ap₂, ◌∙◌, arith, add-one}
use Rattle.std.proofs.Math.Bool.{true, false}
use mathlib.Core.List.{List, [], ◌∷◌, ◌++◌, map}
use Prim.Native.Nat.{ℕ, zero, suc, ◌+◌, ◌-◌, ◌<◌, ◌≤◌}
use Rattle.std.proofs.Math.Dec.{eqb}
use borrow.Author.Tests.{eqb-true}
use Rattle.linear.specs.Basis.{insert, inserts, basis_of, Reduced, dim}
use Rattle.linear.specs.Entry.{generator, chosen, generators_in, space, entries}
use Rattle.linear.specs.Order.{Rising}
use Rattle.linear.specs.Walk.{Next, spans, walk, Steps}
use Rattle.linear.specs.Word.{word}
use Rattle.linear.proofs.laws.Insert.{insert_reduced}
use Rattle.linear.proofs.laws.Walk.{walk_is, Free, walk_none, free_steps}
use Rattle.residues.specs.children.Residues.{residues, known, with_residue}
use Rattle.residues.proofs.laws.of_children.Known.{known_yes, known_no}
use Rattle.residues.proofs.laws.of_children.Child.{with_zero}
use Rattle.residues.specs.children.Barren.{Barren}
use Rattle.records.specs.Records.{State, runs}
use Rattle.catalogue.specs.walk.Walk.{search}

pub search_is : (gens targets : List ℕ) (k : ℕ) → dim word targets ≤ k
    → search gens k (basis_of word targets) [] (length gens) 0 (k - dim word targets) ≡ map (λ es. (es, space word gens targets es))
    (entries word gens targets k)
search_is gens targets k h = walk_is word gens targets (λ C i. known (residues gens C) i) (known_yes gens) (known_no gens) k h (λ p C. (p, C))

module _ (gens : List ℕ) (k : ℕ) (C p : List ℕ) where
  search_end : (n j m : ℕ) → m ≢ 0 → n ≡ 0 → search gens k C p n j m ≡ []
  unfolding walk
  search_end zero j zero a b = absurd (a refl)
  search_end zero j (suc m) a b = refl
  search_end (suc n) j m a b = absurd (omega arith)

  search_turn : (n j m : ℕ) → known (residues gens C) j ≡ true → search gens k C p (suc n) j (suc m) ≡ search gens k C p n (suc j) (suc m)
  unfolding walk
  search_turn n j m e =
      ap (λ (t : Bool). elim t [ true ↦ search gens k C p n (suc j) (suc m) | false ↦ search gens k (insert word C (generator word gens j)) (p ++ j ∷ []) n (suc j) m ++ search gens k C p n (suc j) (suc m) ]) e

  search_down : (n j m : ℕ) → known (residues gens C) j ≡ false
      → search gens k C p (suc n) j (suc m) ≡ search gens k (insert word C (generator word gens j)) (p ++ j ∷ []) n (suc j) m ++ search gens k C p n (suc j) (suc m)
  unfolding walk
  search_down n j m e =
      ap (λ (t : Bool). elim t [ true ↦ search gens k C p n (suc j) (suc m) | false ↦ search gens k (insert word C (generator word gens j)) (p ++ j ∷ []) n (suc j) m ++ search gens k C p n (suc j) (suc m) ]) e

  -- the test of the code is that of the definition
  leaf_test : (h : List ℕ) → h ≡ residues gens C → eqb (dim word (with_residue 0 gens h)) k ≡ spans word gens k C
  unfolding spans
  leaf_test h l = ap (λ (x : List ℕ). eqb (dim word x) k) (ap (with_residue 0 gens) l ∙ with_zero gens C)

  module _ (step : State → List ℕ × List ℕ → State) where
    leaf : (h : List ℕ) (n j m : ℕ) (st : State) (r : Bool) → m ≡ 0 → h ≡ residues gens C → r ≡ eqb (dim word (with_residue 0 gens h)) k
        → runs step st (search gens k C p n j m) ≡ runs step st (cond r ((p, C) ∷ []) [])
    unfolding walk
    leaf h n j zero st r z l d = ap (λ (t : Bool). runs step st (cond t ((p, C) ∷ []) [])) (sym (d ∙ leaf_test h l))
    leaf h n j (suc m) st r z l d = absurd (omega arith)

    -- no number is missing, and the test's result is r
    module _ (h : List ℕ) (n j m : ℕ) (st : State) (r : Bool) (z : m ≡ 0) (l : h ≡ residues gens C) (d : r ≡ eqb (dim word (with_residue 0 gens h)) k) where
      pub leaf_yes : r ≡ true → (end : State) → end ≡ step st (p, C) → end ≡ runs step st (search gens k C p n j m)
      unfolding runs
      leaf_yes e end q = q ∙ sym (leaf h n j m st r z l d ∙ ap (λ (t : Bool). runs step st (cond t ((p, C) ∷ []) [])) e)

      pub leaf_no : r ≡ false → st ≡ runs step st (search gens k C p n j m)
      unfolding runs
      leaf_no e = sym (leaf h n j m st r z l d ∙ ap (λ (t : Bool). runs step st (cond t ((p, C) ∷ []) [])) e)

  module _ (h : List ℕ) (j m : ℕ) (l : h ≡ residues gens C) (ne : m ≢ 0) where
    pub turn_end : length gens ≤ j → search gens k C p (length gens - j) j m ≡ []
    turn_end g = search_end (length gens - j) j m ne (omega arith)

    counts : j < length gens → search gens k C p (length gens - j) j m ≡ search gens k C p (suc (length gens - (j + 1))) j (suc (m - 1))
    counts g = ap₂ (λ (a b : ℕ). search gens k C p a j b) (omega arith) (omega arith)

    back : search gens k C p (length gens - (j + 1)) (suc j) (suc (m - 1)) ≡ search gens k C p (length gens - (j + 1)) (j + 1) m
    back = ap₂ (λ (a b : ℕ). search gens k C p (length gens - (j + 1)) a b) (sym (add-one j)) (omega arith)

    pub turn_skip : j < length gens → true ≡ known h j → search gens k C p (length gens - j) j m ≡ search gens k C p (length gens - (j + 1)) (j + 1) m
    turn_skip g e = counts g ∙ search_turn (length gens - (j + 1)) j (m - 1) (ap (λ (x : List ℕ). known x j) (sym l) ∙ sym e) ∙ back

    pub turn_down : j < length gens → false ≡ known h j
        → search gens k C p (length gens - j) j m
        ≡ search gens k (insert word C (generator word gens j)) (p ++ j ∷ []) (length gens - (j + 1)) (j + 1) (m - 1) ++ search gens k C p (length gens - (j + 1)) (j + 1) m
    turn_down g e =
        counts g ∙ search_down (length gens - (j + 1)) j (m - 1) (ap (λ (x : List ℕ). known x j) (sym l) ∙ sym e)
        ∙ ap₂ ◌++◌ (ap (λ (a : ℕ). search gens k (insert word C (generator word gens j)) (p ++ j ∷ []) (length gens - (j + 1)) a (m - 1)) (sym (add-one j))) back

    pub turn_drop : Reduced word C → j < length gens → false ≡ known h j → Barren gens h j k m
        → search gens k (insert word C (generator word gens j)) (p ++ j ∷ []) (length gens - (j + 1)) (j + 1) (m - 1) ≡ []
    turn_drop ρ g e B =
        walk_none word gens (λ D i. known (residues gens D) i) (spans word gens k) (λ q D. (q, D)) (insert word C f) (p ++ j ∷ []) (length gens - (j + 1))
        (j + 1) (m - 1) (length gens) (omega arith)
        (λ a. B.none C ρ l nx a.numbers a.rising.0 (steps a.numbers a.rising.1 a.free) (passes (inserts word (insert word C f) (chosen word gens a.numbers)) a.good))
      where
        f : ℕ
        f = generator word gens j

        nx : Next word gens C j
        nx = known_no gens C j ρ (ap (λ (x : List ℕ). known x j) (sym l) ∙ sym e)

        steps : (es : List ℕ) → Rising (j + 1) (length gens) es → Free word gens (λ D i. known (residues gens D) i) (insert word C f) es → Steps word gens (insert word C f) (j + 1) (length gens) es
        steps es = free_steps word gens (λ D i. known (residues gens D) i) (known_no gens) es (insert word C f) (j + 1) (length gens) (insert_reduced word C f ρ)

        passes : (W : List ℕ) → spans word gens k W ≡ true → dim word (generators_in word gens W) ≡ k
        passes W q = unfold spans in eqb-true (dim word (generators_in word gens W)) k q
