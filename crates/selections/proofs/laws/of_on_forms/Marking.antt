-- Marks put at selected numbers, one after the other, and the tests on the numbers.
--   misfit_outside, misfit_twice   the two tests are the misfit
--   misfit_below                   the numbers of a selection that fits are below n
--   without_none, without_below    leaving out a number that is not there; what is left is below n too
--   Marking sel skip before marks i == with the selected numbers from place i on marked too, skip left out, the marks are those of all
--   marked_part                    the marks of a selection choose its part
-- Assumes nothing.
use Rattle.std.proofs.Math.Path.{◌≡◌, refl, sym, ap}
use Rattle.std.proofs.Common.{◌∙◌, arith, drop_of_length-le, get_or-set_same, get_or-set_other}
use Rattle.std.specs.Prelude.{◌≢◌, Bool, ◌||◌, ℕ, ◌+◌, ◌<◌, ◌≤◌, length, get_or, drop, set, replicate, eqb, ltb}
use Rattle.std.proofs.Math.Bool.{true, false, not, cond}
use mathlib.Core.List.{List, [], ◌∷◌, Memᴰ}
use Rattle.std.proofs.Math.Decide.{ℕ_discrete}
use Rattle.std.proofs.Math.ListN.{length-set}
use borrow.Author.Tests.{eq-eqb, ne_eqb, ltb-true, not-false}
use Rattle.kinds.specs.laws.Refusal.{neither}
use Rattle.linear.specs.Greedy.{greedy}
use Rattle.linear.specs.Part.{part}
use Rattle.linear.specs.Select.{any_of, only}
use Rattle.linear.specs.Word.{word}
use Rattle.linear.proofs.laws.Greedy.{greedy_same}
use Rattle.linear.proofs.laws.Select.{any_of_no, only_mem}
use Rattle.words.specs.laws.Scan.{next}
use Rattle.words.specs.laws.Blank.{zero_at}
use Rattle.words.specs.lists.Lists.{repeats}
use Rattle.choices.specs.Choice.{marked}
use Rattle.selections.specs.on_forms.Selected.{misfit, without, Marked}

-- ---- numbers outside, or twice
module _ (n : ℕ) (sel : List ℕ) where
  pub misfit_outside : (b : Bool) → b ≡ any_of (λ e. not (ltb e n)) sel → b ≡ true → true ≡ misfit n sel
  unfolding misfit
  misfit_outside b e t = ap (λ (x : Bool). x || repeats sel) (sym t ∙ e)

  pub misfit_twice : (b r : Bool) → b ≡ any_of (λ e. not (ltb e n)) sel → b ≡ false → r ≡ repeats sel → r ≡ misfit n sel
  unfolding misfit
  misfit_twice b r e f q = q ∙ ap (λ (x : Bool). x || repeats sel) (sym f ∙ e)

  pub misfit_below : misfit n sel ≡ false → (x : ℕ) → Memᴰ x sel → x < n
  unfolding misfit
  misfit_below e x m =
      ltb-true x n (not-false (ltb x n) (any_of_no (λ e. not (ltb e n)) sel (neither (any_of (λ e. not (ltb e n)) sel) (repeats sel) e).0 x m))

-- leaving out a number that is not there
only_all : (p : ℕ → Bool) (l : List ℕ) → ((x : ℕ) → Memᴰ x l → p x ≡ true) → only p l ≡ l
unfolding only
only_all p [] h = refl
only_all p (x ∷ l) h =
    ap (λ (t : Bool). cond t (x ∷ only p l) (only p l)) (h x (Memᴰ.head refl))
    ∙ ap (λ (r : List ℕ). x ∷ r) (only_all p l (λ y m. h y (Memᴰ.tail m)))

pub without_none : (n : ℕ) (sel : List ℕ) → misfit n sel ≡ false → without n sel ≡ sel
unfolding without
without_none n sel m = only_all (λ e. not (eqb n e)) sel (λ x k. ap not (ne_eqb n x (λ q. let h = misfit_below n sel m x k in omega arith)))

pub without_below : (n j : ℕ) (sel : List ℕ) → misfit n sel ≡ false → (x : ℕ) → Memᴰ x (without j sel) → x < n
unfolding without
without_below n j sel m x k = misfit_below n sel m x (only_mem (λ e. not (eqb j e)) sel x k).0

-- ---- marks
module _ (sel : List ℕ) (skip : ℕ) (before : List ℕ) where
  pub record Marking (marks : List ℕ) (i : ℕ) : Type 0 where
    pub within : i ≤ length sel
    pub same : length marks ≡ length before
    pub is : (j : ℕ) → cond (any_of (eqb j) (without skip sel)) 1 (get_or before j 0) ≡ cond (any_of (eqb j) (without skip (drop i sel))) 1 (get_or marks j 0)

  pub marking_start : Marking before 0
  marking_start = record { within = omega arith; same = refl; is = λ j. refl }

  module _ (marks : List ℕ) (i : ℕ) (M : Marking marks i) (h : i < length sel) where
    -- the next number, left out or not
    left : (t : Bool) → eqb skip (get_or sel i 0) ≡ t
        → without skip (drop i sel) ≡ cond (not t) (get_or sel i 0 ∷ without skip (drop (i + 1) sel)) (without skip (drop (i + 1) sel))
    unfolding without only
    left t e =
        ap (without skip) (next sel i h)
        ∙ ap (λ (b : Bool). cond (not b) (get_or sel i 0 ∷ without skip (drop (i + 1) sel)) (without skip (drop (i + 1) sel))) e

    pub marking_skip : get_or sel i 0 ≡ skip → Marking marks (i + 1)
    marking_skip q =
        record {
          within = omega arith;
          same = M.same;
          is = λ j. M.is j ∙ ap (λ (l : List ℕ). cond (any_of (eqb j) l) 1 (get_or marks j 0)) (left true (eq-eqb skip (get_or sel i 0) (sym q)));
        }

    pub marking_next : get_or sel i 0 ≢ skip → get_or sel i 0 < length marks → Marking (set marks (get_or sel i 0) 1) (i + 1)
    unfolding any_of
    marking_next q l =
        record {
          within = omega arith;
          same = length-set marks (get_or sel i 0) 1 ∙ M.same;
          is =
              λ j. M.is j ∙ ap (λ (l : List ℕ). cond (any_of (eqb j) l) 1 (get_or marks j 0)) (left false (ne_eqb skip (get_or sel i 0) (λ e. q (sym e))))
              ∙ one j (any_of (eqb j) (without skip (drop (i + 1) sel))) (ℕ_discrete j (get_or sel i 0));
        }
      where
        same_one : (a : Bool) → ◌≡◌ {A = ℕ} 1 (cond a 1 1)
        same_one true = refl
        same_one false = refl

        one : (j : ℕ) (a : Bool) → Dec (j ≡ get_or sel i 0)
            → cond (eqb j (get_or sel i 0) || a) 1 (get_or marks j 0) ≡ cond a 1 (get_or (set marks (get_or sel i 0) 1) j 0)
        one j a (yes p) =
            ap (λ (t : Bool). cond (t || a) 1 (get_or marks j 0)) (eq-eqb j (get_or sel i 0) p) ∙ same_one a
            ∙ ap (λ (x : ℕ). cond a 1 x) (sym (ap (λ (k : ℕ). get_or (set marks (get_or sel i 0) 1) k 0) p ∙ get_or-set_same marks (get_or sel i 0) 1 0 l))
        one j a (no p) =
            ap (λ (t : Bool). cond (t || a) 1 (get_or marks j 0)) (ne_eqb j (get_or sel i 0) p)
            ∙ ap (λ (x : ℕ). cond a 1 x) (sym (get_or-set_other marks (get_or sel i 0) j 1 0 p))

  pub marking_end : (marks : List ℕ) (i : ℕ) → Marking marks i → length sel ≤ i → Marked (without skip sel) before marks
  unfolding without only any_of
  marking_end marks i M h =
      record {
        same = M.same;
        is = λ j. sym (M.is j ∙ ap (λ (l : List ℕ). cond (any_of (eqb j) (without skip l)) 1 (get_or marks j 0)) (drop_of_length-le sel h));
      }

-- the marks of a selection, out of none, choose its part
pub marked_part : (gens sel before marks : List ℕ) (n : ℕ) → before ≡ replicate n 0 → Marked sel before marks
    → greedy word gens (marked marks) [] (length gens) 0 ≡ part word gens sel
unfolding part
marked_part gens sel before marks n z M =
    greedy_same word gens (marked marks) (λ j. any_of (eqb j) sel) [] (length gens) 0
    (λ j. ap (λ (x : ℕ). eqb x 1) (M.is j ∙ ap (cond (any_of (eqb j) sel) 1) (zero_at n before z j)) ∙ one (any_of (eqb j) sel))
  where
    one : (t : Bool) → eqb (cond t 1 0) 1 ≡ t
    one true = eq-eqb 1 1 refl
    one false = ne_eqb 0 1 (λ e. let z : ◌≡◌ {A = ℕ} 0 1 = e in omega arith)
