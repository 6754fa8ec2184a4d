-- The choice along a list of numbers, one after the other: what is taken so far in a buffer, and the rest as the choice goes on.
--   Taking gens h order before b n numbers i == the numbers taken among the first i of `order` stand in order at the start of `numbers`, b holds their span
--   taking_start, taking_failed, taking_spanned, taking_take, taking_end   the loop: a number that does not pass, one whose generator is spanned, one taken
--   taking_room                      there is room for one more: what is taken is independent
--   taken_cheapest                   where the words of h are 0 exactly for the generators inside a space, what is taken is `cheapest_in` of it: for callers
-- Assumes nothing.
use Rattle.std.specs.Prelude.{◌≡◌, refl, Bool, false, cond, ◌&&◌, eqb, take}
use Rattle.std.proofs.Math.Path.{sym, ap, ap₂, subst}
use Rattle.std.proofs.Common.{◌∙◌, arith, take-append-drop, drop_of_length-le, length-take-le}
use Rattle.std.proofs.Math.Bool.{true, not}
use mathlib.Core.List.{List, [], ◌∷◌, ◌++◌}
use Prim.Native.Nat.{ℕ, suc, ◌+◌, ◌<◌, ◌≤◌}
use Rattle.std.proofs.Math.ListN.{length, get_or, drop}
use Rattle.linear.specs.Basis.{insert}
use Rattle.linear.specs.Entry.{inside, generator}
use Rattle.linear.specs.Greedy.{wanted}
use Rattle.linear.specs.Prices.{along, cheapest_in}
use Rattle.linear.specs.Sorted.{place, placing, sorted}
use Rattle.linear.proofs.Theorems.{insertion_new}
use Rattle.linear.specs.Word.{word}
use Rattle.linear.proofs.laws.Greedy.{wanted_new}
use Rattle.bases.specs.declared.Basis.{Basis}
use Rattle.bases.specs.Basis.{rows_of, Valid, Holds, rows_length}
use Rattle.words.specs.laws.Masks.{AllBelow, below_at}
use Rattle.words.specs.laws.Scan.{next}
use Rattle.cheapest.specs.Offers.{Listed, taken_along, Taken}
use Rattle.cheapest.specs.laws.Members.{place_below}
use Rattle.cheapest.specs.ordering.laws.Placing.{entered_length, entered_front, entered_rest}

pub record Taking (gens h order before : List ℕ) (b : Basis) (n : ℕ) (numbers : List ℕ) (i : ℕ) : Type 0 where
  pub within : i ≤ length order
  pub valid : Valid b
  pub even : n ≡ b.len
  pub same : length numbers ≡ length before
  pub rest : drop n numbers ≡ drop n before
  pub below : AllBelow (length gens) (take n numbers)
  pub is : placing (take n numbers) (along word gens (λ j. eqb (get_or h j 0) 0) (rows_of b) (drop i order)) ≡ taken_along gens h order

pub taking_start : (gens h order before : List ℕ) (b : Basis) → Holds [] b → Taking gens h order before b 0 before 0
taking_start gens h order before b H =
    record {
      within = omega arith;
      valid = H.valid;
      even = sym (sym (rows_length b H.valid) ∙ ap length H.is);
      same = refl;
      rest = refl;
      below = tt;
      is = ap (λ (C : List ℕ). placing [] (along word gens (λ j. eqb (get_or h j 0) 0) C order)) H.is;
    }

module _ (gens h order : List ℕ) where
  abbrev ok : ℕ → Bool
  ok j = eqb (get_or h j 0) 0

  -- what is taken from place i on
  abbrev from : List ℕ → ℕ → List ℕ
  from C i = along word gens ok C (drop i order)

  -- the next number
  step : (C : List ℕ) (i : ℕ) (t : Bool) → i < length order → wanted word gens ok C (get_or order i 0) ≡ t
      → from C i ≡ cond t (get_or order i 0 ∷ from (insert word C (get_or gens (get_or order i 0) 0)) (i + 1)) (from C (i + 1))
  unfolding along generator
  step C i t l e = ap (along word gens ok C) (next order i l) ∙ ap both e ∙ go t
    where
      j : ℕ
      j = get_or order i 0

      both : Bool → List ℕ
      both u = cond u (j ∷ from (cond u (insert word C (get_or gens j 0)) C) (i + 1)) (from (cond u (insert word C (get_or gens j 0)) C) (i + 1))

      go : (u : Bool) → both u ≡ cond u (j ∷ from (insert word C (get_or gens j 0)) (i + 1)) (from C (i + 1))
      go true = refl
      go false = refl

  -- the test by its two parts
  tested : (C : List ℕ) (j : ℕ) (s t : Bool) → ok j ≡ s → inside word C (get_or gens j 0) ≡ t → wanted word gens ok C j ≡ (s && not t)
  unfolding wanted generator
  tested C j s t p q = ap₂ (λ (x y : Bool). x && not y) p q

module _ {gens h order before : List ℕ} {b : Basis} {n : ℕ} {numbers : List ℕ} {i : ℕ} (T : Taking gens h order before b n numbers i) where
  abbrev number : ℕ
  number = get_or order i 0

  module _ (l : i < length order) where
    past : wanted word gens (ok gens h order) (rows_of b) number ≡ false → Taking gens h order before b n numbers (i + 1)
    past e =
        record {
          within = omega arith;
          valid = T.valid;
          even = T.even;
          same = T.same;
          rest = T.rest;
          below = T.below;
          is = sym (ap (placing (take n numbers)) (step gens h order (rows_of b) i false l e)) ∙ T.is;
        }

    pub taking_failed : eqb (get_or h (get_or order i 0) 0) 0 ≡ false → Taking gens h order before b n numbers (i + 1)
    taking_failed p = past (tested gens h order (rows_of b) number false (inside word (rows_of b) (get_or gens number 0)) p refl)

    pub taking_spanned : eqb (get_or h (get_or order i 0) 0) 0 ≡ true → inside word (rows_of b) (get_or gens (get_or order i 0) 0) ≡ true
        → Taking gens h order before b n numbers (i + 1)
    taking_spanned p q = past (tested gens h order (rows_of b) number true true p q)

    module _ (p : eqb (get_or h (get_or order i 0) 0) 0 ≡ true) (q : inside word (rows_of b) (get_or gens (get_or order i 0) 0) ≡ false) {b' : Basis}
        (H : Holds (insert word (rows_of b) (get_or gens (get_or order i 0) 0)) b') (r : 64 ≤ length before) where
      taken : wanted word gens (ok gens h order) (rows_of b) number ≡ true
      taken = tested gens h order (rows_of b) number true false p q

      -- the basis has one row more
      grown : b'.len ≡ n + 1
      grown =
          let m : length (insert word (rows_of b) (get_or gens number 0)) ≡ suc (length (rows_of b)) =
          insertion_new word (rows_of b) (get_or gens number 0) T.valid.reduced
          (unfold generator in wanted_new word gens (ok gens h order) (rows_of b) T.valid.reduced number taken) in
          omega (arith, m, rows_length b T.valid, rows_length b' H.valid, ap length H.is, T.even)

      pub taking_room : n < length numbers
      taking_room = omega (arith, grown, H.valid.room, T.same)

      pub taking_take : {after : List ℕ} → Listed gens h order → after ≡ place (get_or order i 0) (take n numbers) ++ drop (n + 1) numbers
          → Taking gens h order before b' (n + 1) after (i + 1)
      unfolding placing
      taking_take {after = after} L e =
          record {
            within = omega arith;
            valid = H.valid;
            even = sym grown;
            same = entered_length before numbers after n number taking_room e ∙ T.same;
            rest = entered_rest before numbers after n number taking_room e T.rest;
            below =
                subst (AllBelow (length gens)) (sym (entered_front before numbers after n number taking_room e))
                (place_below (length gens) number (take n numbers) (below_at (length gens) order i L.numbers l) T.below);
            is =
                ap₂ (λ (a C : List ℕ). placing a (from gens h order C (i + 1))) (entered_front before numbers after n number taking_room e) H.is
                ∙ sym (ap (placing (take n numbers)) (step gens h order (rows_of b) i true l taken)) ∙ T.is;
          }

  pub taking_end : length order ≤ i → 64 ≤ length before → Taken gens h order before n numbers
  unfolding along placing
  taking_end l r =
      record {
        many = many;
        room = room;
        below = subst (AllBelow (length gens)) e T.below;
        is = sym (take-append-drop n numbers) ∙ ap₂ ◌++◌ e (T.rest ∙ ap (λ (k : ℕ). drop k before) many);
      }
    where
      room : n ≤ 64
      room = omega (arith, T.even, T.valid.room)

      e : take n numbers ≡ taken_along gens h order
      e = ap (λ (js : List ℕ). placing (take n numbers) (along word gens (ok gens h order) (rows_of b) js)) (sym (drop_of_length-le order l)) ∙ T.is

      many : n ≡ length (taken_along gens h order)
      many = sym (length-take-le n numbers (omega (arith, room, T.same))) ∙ ap length e

-- ---- for callers
along_agree : (gens : List ℕ) (p q : ℕ → Bool) (C js : List ℕ) → ((j : ℕ) → j < length gens → p j ≡ q j) → AllBelow (length gens) js
    → along word gens p C js ≡ along word gens q C js
unfolding along wanted
along_agree gens p q C [] h l = refl
along_agree gens p q C (j ∷ js) h l = ap both (h j l.0) ∙ ap (λ (r : List ℕ). cond (new (q j)) (j ∷ r) r) (along_agree gens p q (grown (q j)) js h l.1)
  where
    new : Bool → Bool
    new t = t && not (inside word C (generator word gens j))

    grown : Bool → List ℕ
    grown t = cond (new t) (insert word C (generator word gens j)) C

    both : Bool → List ℕ
    both t = cond (new t) (j ∷ along word gens p (grown t) js) (along word gens p (grown t) js)

pub taken_cheapest : (gens h order W : List ℕ) → ((j : ℕ) → j < length gens → eqb (get_or h j 0) 0 ≡ inside word W (generator word gens j))
    → AllBelow (length gens) order → taken_along gens h order ≡ cheapest_in word gens order W
unfolding cheapest_in
taken_cheapest gens h order W e l =
    ap sorted (along_agree gens (λ j. eqb (get_or h j 0) 0) (λ j. inside word W (generator word gens j)) [] order e l)
