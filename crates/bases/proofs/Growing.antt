-- A basis in an array as vectors are put in.
-- holds_empty, holds_old, holds-new: no row; a vector that is in the span; a new row, sifted in.
-- has_room: where something is left of a vector, there is room for one more row.
-- Basing == the vectors below i are in, and the others, put in, make the basis of all
-- basing_start, basing_next, basing-end: no vector is in, one more, and all.
-- Assumes nothing.
use mathlib.Core.Path.{◌≡◌, refl, sym, ap, ap₂, ◌∙◌, subst}
use mathlib.Core.Logic.{◌≢◌}
use mathlib.Core.List.Memᴰ
use mathlib.Core.List.{List, []}
use Prim.Native.Nat.{ℕ, zero, suc, ◌+◌, ◌-◌, ◌^◌, ◌<◌, ◌≤◌}
use native.Mathlib.Numerals.{add-one}
use native.Mathlib.Omega.{arith}
use lib.ListN.{length, get_or, take, drop, replicate, drop_of_length-le}
use lib.Seq.{drop-cons, drop-drop}
use Rattle.linear.specs.Basis.{reduce, place, insert, inserts, basis_of, Reduced}
use Rattle.linear.specs.Word.{word, Below}
use Rattle.linear.proofs.laws.Insert.{insert_old, insert_reduced, insert_length_new}
use Rattle.bases.specs.Basis.{rows_of, Valid, Holds, rows_length}
use Rattle.linear.proofs.laws.Word.{at_most, insert_below, insert_place}
use Rattle.bases.specs.declared.Basis.{Basis}
use Rattle.bases.specs.insertion.Placing.{Placed}
use Rattle.bases.proofs.laws.of_insertion.Sifting.{sift_place}

pub holds_empty : Holds [] (record { rows = replicate 64 0; len = 0 })
holds_empty =
    record {
      valid =
          record {
            whole = refl;
            room = omega arith;
            rest = refl;
            words = λ x m. absurd (Memᴰ.not-nil m);
            reduced = tt;
          };
      is = refl;
    }

-- a zero fewer
one_less : (k : ℕ) → drop {A = ℕ} 1 (replicate k 0) ≡ replicate (k - 1) 0
one_less zero = refl
one_less (suc k) = ap (λ (n : ℕ). replicate n 0) (let e : k ≡ suc k - 1 = omega arith in e)

module _ (b : Basis) (G : Valid b) (v : ℕ) where
  pub holds_old : reduce word (rows_of b) v ≡ 0 → Holds (insert word (rows_of b) v) b
  holds_old e = record { valid = G; is = sym (insert_old word (rows_of b) v e) }

  module _ (f : v < 2 ^ 64) (r : ℕ) (e : r ≡ reduce word (rows_of b) v) (n : r ≢ 0) where
    new : reduce word (rows_of b) v ≢ 0
    new z = n (e ∙ z)

    grown_below : (Below 64) (insert word (rows_of b) v)
    grown_below = insert_below 64 (rows_of b) v G.words f

    grown_reduced : Reduced word (insert word (rows_of b) v)
    grown_reduced = insert_reduced word (rows_of b) v G.reduced

    pub has_room : b.len < 64
    has_room =
        let a : length (insert word (rows_of b) v) ≡ suc (length (rows_of b)) = insert_length_new word (rows_of b) v new in
        let k : length (insert word (rows_of b) v) ≤ 64 = at_most 64 (insert word (rows_of b) v) grown_reduced grown_below in
        omega (arith, a, k, rows_length b G)

    pub holds_new : (out : List ℕ) → Placed b.rows b.len r out → Holds (insert word (rows_of b) v) (record { rows = out; len = b.len + 1 })
    holds_new out P =
        record {
          valid =
              record {
                whole = P.same ∙ G.whole;
                room = omega (arith, has_room);
                rest =
                    P.rest ∙ sym (drop-drop 1 b.len b.rows) ∙ ap (λ (l : List ℕ). drop 1 l) G.rest ∙ one_less (64 - b.len)
                    ∙ ap (λ (k : ℕ). replicate k 0) (let q : 64 - b.len - 1 ≡ 64 - (b.len + 1) = omega arith in q);
                words = subst (Below 64) (sym is) grown_below;
                reduced = subst (Reduced word) (sym is) grown_reduced;
              };
          is = is;
        }
      where
        is : take (b.len + 1) out ≡ insert word (rows_of b) v
        is =
            P.rows ∙ sift_place r (rows_of b) G.reduced ∙ ap (λ (x : ℕ). place word x (rows_of b)) e
            ∙ sym (insert_place (rows_of b) v new)

-- ---- a list of vectors
pub record Basing (xs : List ℕ) (b : Basis) (i : ℕ) : Type 0 where
  pub within : i ≤ length xs
  pub valid : Valid b
  pub left : inserts word (rows_of b) (drop i xs) ≡ basis_of word xs

pub basing_start : (xs : List ℕ) (b : Basis) → Holds [] b → Basing xs b 0
unfolding basis_of
basing_start xs b H = record { within = omega arith; valid = H.valid; left = ap (λ (B : List ℕ). inserts word B xs) H.is }

pub basing_next : (xs : List ℕ) (b : Basis) (i : ℕ) → Basing xs b i → i < length xs → (r : Basis) → Holds (insert word (rows_of b) (get_or xs i 0)) r → Basing xs r (i + 1)
unfolding inserts
basing_next xs b i B l r H =
    record {
      within = omega arith;
      valid = H.valid;
      left =
          ap₂ (λ (C : List ℕ) (k : ℕ). inserts word C (drop k xs)) H.is (add-one i)
          ∙ ap (inserts word (rows_of b)) (sym (drop-cons xs i 0 l)) ∙ B.left;
    }

pub basing_end : (xs : List ℕ) (b : Basis) (i : ℕ) → Basing xs b i → length xs ≤ i → Holds (basis_of word xs) b
unfolding inserts
basing_end xs b i B l = record { valid = B.valid; is = ap (inserts word (rows_of b)) (sym (drop_of_length-le xs l)) ∙ B.left }
