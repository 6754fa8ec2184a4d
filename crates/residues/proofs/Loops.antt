-- The loops over the generators, and their turns.
-- Mapping == the words below i of the array are those of the list, mapped; mapping_next, mapping-end: one more, and all.
-- Putting == the generators of residue x below i are in the basis, and the others, put in, make the basis with all of them; putting_start, putting_in, putting_out,
-- putting-end: none, one more that is or isn't of that residue, and all.
-- Assumes nothing.
use mathlib.Core.Path.{◌≡◌, refl, sym, ap, ap₂, ◌∙◌}
use mathlib.Core.Bool.{Bool, cond}
use mathlib.Core.List.{List, [], ◌∷◌, ◌++◌, map}
use Prim.Native.Nat.{ℕ, suc, ◌+◌, ◌<◌, ◌≤◌}
use native.Mathlib.Omega.{arith}
use native.Mathlib.Numerals.{add-one}
use lib.ListN.{length, get_or, take, drop, set, length-set, drop_of_length-le}
use lib.Seq.{drop-cons, take-suc, take-suc-set, take_all}
use lib.Dec.{eqb}
use borrow.Author.Tests.{eq-eqb, ne_eqb}
use Rattle.linear.specs.Basis.{insert, inserts}
use Rattle.linear.specs.Word.{word}
use Rattle.bases.specs.Basis.{rows_of, Valid, Holds}
use Rattle.bases.specs.declared.Basis.{Basis}
use Rattle.residues.specs.children.Residues.{with_residue}
use Rattle.residues.specs.Mapped.{Mapped}
use Rattle.residues.specs.Room.{search_room}

pub record Mapping (f : ℕ → ℕ) (h : List ℕ) (out : List ℕ) (i : ℕ) : Type 0 where
  pub within : i ≤ length h
  pub whole : length out ≡ search_room
  pub done : take i out ≡ map f (take i h)

map_snoc : (f : ℕ → ℕ) (l : List ℕ) (y : ℕ) → map f (l ++ y ∷ []) ≡ map f l ++ f y ∷ []
map_snoc f [] y = refl
map_snoc f (x ∷ l) y = ap {B = List ℕ} (λ r. f x ∷ r) (map_snoc f l y)

pub mapping_next : (f : ℕ → ℕ) (h : List ℕ) (out : List ℕ) (i : ℕ) → length h ≤ search_room → Mapping f h out i → i < length h → (y : ℕ) → y ≡ f (get_or h i 0)
    → Mapping f h (set out i y) (i + 1)
mapping_next f h out i b C l y e =
    record {
      within = omega arith;
      whole = length-set out i y ∙ C.whole;
      done =
          ap (λ (k : ℕ). take k (set out i y)) (add-one i) ∙ take-suc-set out i y (omega (arith, C.whole))
          ∙ ap₂ (λ (a : List ℕ) (z : ℕ). a ++ z ∷ []) C.done e ∙ sym (map_snoc f (take i h) (get_or h i 0))
          ∙ ap (map f) (sym (take-suc h i 0 l) ∙ ap (λ (k : ℕ). take k h) (sym (add-one i)));
    }

pub mapping_end : (f : ℕ → ℕ) (h : List ℕ) (out : List ℕ) (i : ℕ) → Mapping f h out i → length h ≤ i → Mapped f h out
mapping_end f h out i C l =
    let e : i ≡ length h = omega (arith, C.within) in
    record { whole = C.whole; is = ap (λ (k : ℕ). take k out) (sym e) ∙ C.done ∙ ap (map f) (take_all i h l) }

-- ---- the generators of one residue
pub record Putting (gens h : List ℕ) (x : ℕ) (B : List ℕ) (b : Basis) (i : ℕ) : Type 0 where
  pub within : i ≤ length gens
  pub valid : Valid b
  pub left : inserts word (rows_of b) (with_residue x (drop i gens) (drop i h)) ≡ inserts word B (with_residue x gens h)

pub putting_start : (gens h : List ℕ) (x : ℕ) (b : Basis) → Valid b → Putting gens h x (rows_of b) b 0
putting_start gens h x b G = record { within = omega arith; valid = G; left = refl }

module _ (gens h : List ℕ) (x : ℕ) (B : List ℕ) (same : length gens ≡ length h) (b : Basis) (i : ℕ) (R : Putting gens h x B b i) (l : i < length gens) where
  abbrev after : List ℕ
  after = with_residue x (drop (suc i) gens) (drop (suc i) h)

  turn : with_residue x (drop i gens) (drop i h) ≡ cond (eqb (get_or h i 0) x) (get_or gens i 0 ∷ after) after
  unfolding with_residue
  turn = ap₂ (with_residue x) (drop-cons gens i 0 l) (drop-cons h i 0 (omega arith))

  pub putting_in : get_or h i 0 ≡ x → (r : Basis) → Holds (insert word (rows_of b) (get_or gens i 0)) r → Putting gens h x B r (i + 1)
  unfolding inserts
  putting_in e r G =
      record {
        within = omega arith;
        valid = G.valid;
        left =
            ap (λ (k : ℕ). inserts word (rows_of r) (with_residue x (drop k gens) (drop k h))) (add-one i)
            ∙ ap (λ (C : List ℕ). inserts word C after) G.is
            ∙ ap (inserts word (rows_of b)) (sym (turn ∙ ap (λ (t : Bool). cond t (get_or gens i 0 ∷ after) after) (eq-eqb (get_or h i 0) x e))) ∙ R.left;
      }

  pub putting_out : (get_or h i 0 ≡ x → ⊥) → Putting gens h x B b (i + 1)
  putting_out n =
      record {
        within = omega arith;
        valid = R.valid;
        left =
            ap (λ (k : ℕ). inserts word (rows_of b) (with_residue x (drop k gens) (drop k h))) (add-one i)
            ∙ ap (inserts word (rows_of b)) (sym (turn ∙ ap (λ (t : Bool). cond t (get_or gens i 0 ∷ after) after) (ne_eqb (get_or h i 0) x n))) ∙ R.left;
      }

pub putting_end : (gens h : List ℕ) (x : ℕ) (B : List ℕ) (b : Basis) (i : ℕ) → Putting gens h x B b i → length gens ≤ i → Holds (inserts word B (with_residue x gens h)) b
unfolding inserts with_residue
putting_end gens h x B b i R l =
    record { valid = R.valid; is = sym (ap (λ (m : List ℕ). inserts word (rows_of b) (with_residue x m (drop i h))) (drop_of_length-le gens l)) ∙ R.left }
