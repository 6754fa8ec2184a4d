-- The greedy choice, one generator at a time.
--   Choosing gens ok b c i == of the generators before number i, c holds those that are wanted, and b is the basis of their span
--   choosing_start, choosing_failed, choosing_spanned, choosing_take, choosing_end   the loop: a number that fails the test, one whose generator is spanned,
--                             one that is taken
--   choosing_room             one is taken only where there is room for it, as a basis has at most 64 rows
-- Assumes nothing.
use Rattle.std.specs.Prelude.{◌≡◌, refl, Bool, false, cond, ◌&&◌, get_or, take, set}
use Rattle.std.proofs.Math.Path.{sym, ap, ap₂}
use Rattle.std.proofs.Common.{◌∙◌, length-set, take-suc-set}
use Rattle.std.proofs.Math.Bool.{true, not}
use mathlib.Core.List.{List, [], ◌∷◌, ◌++◌, append-nil, append_assoc}
use Prim.Native.Nat.{ℕ, suc, ◌+◌, ◌-◌, ◌<◌, ◌≤◌}
use native.Mathlib.Omega.{arith}
use Rattle.std.proofs.Math.ListN.{length, length-append}
use Rattle.linear.specs.Basis.{insert}
use Rattle.linear.specs.Entry.{inside, generator, chosen}
use Rattle.linear.specs.Word.{word}
use Rattle.linear.specs.Greedy.{wanted, greedy}
use Rattle.linear.proofs.Theorems.{insertion_new}
use Rattle.linear.proofs.laws.Greedy.{wanted_new}
use Rattle.linear.proofs.laws.Extension.{chosen_append}
use Rattle.bases.specs.declared.Basis.{Basis}
use Rattle.bases.specs.Basis.{rows_of, Valid, Holds, rows_length}
use Rattle.choices.specs.declared.Choice.{Choice}
use Rattle.choices.specs.Choice.{numbers_of, Whole, Chose, Added}
use Rattle.choices.specs.laws.Writing.{numbers_length}

pub added : (c : Choice) (j g : ℕ) → Whole c → c.len < 64
    → Added c j g (record { numbers = set c.numbers c.len j; forms = set c.forms c.len g; len = c.len + 1 })
added c j g W l =
    record {
      whole = record { numbers = length-set c.numbers c.len j ∙ W.numbers; forms = length-set c.forms c.len g ∙ W.forms; room = omega arith };
      numbers = ap (λ (k : ℕ). take k (set c.numbers c.len j)) more ∙ take-suc-set c.numbers c.len j (omega (arith, W.numbers));
      forms = ap (λ (k : ℕ). take k (set c.forms c.len g)) more ∙ take-suc-set c.forms c.len g (omega (arith, W.forms));
    }
  where
    more : c.len + 1 ≡ suc c.len
    more = omega arith

module _ (gens : List ℕ) (ok : ℕ → Bool) where
  abbrev gen : ℕ → ℕ
  gen j = get_or gens j 0

  abbrev all : List ℕ
  all = greedy word gens ok [] (length gens) 0

  -- what is taken from number i on
  abbrev from : List ℕ → ℕ → List ℕ
  from C i = greedy word gens ok C (length gens - i) i

  pub record Choosing (b : Basis) (c : Choice) (i : ℕ) : Type 0 where
    pub within : i ≤ length gens
    pub valid : Valid b
    pub chose : Chose gens (numbers_of c) c
    pub even : c.len ≡ b.len
    pub is : greedy word gens ok [] (length gens) 0 ≡ numbers_of c ++ greedy word gens ok (rows_of b) (length gens - i) i

  pub choosing_start : (b : Basis) (c : Choice) → Holds [] b → Whole c → c.len ≡ 0 → Choosing b c 0
  choosing_start b c H W z =
      record {
        within = omega arith;
        valid = H.valid;
        chose = record { whole = W; numbers = refl; forms = ap (λ (k : ℕ). take k c.forms) z ∙ sym (none z) };
        even = z ∙ sym (sym (rows_length b H.valid) ∙ ap length H.is);
        is =
            ap (λ (C : List ℕ). greedy word gens ok C (length gens) 0) (sym H.is)
            ∙ sym (ap₂ (λ (p : List ℕ) (n : ℕ). p ++ greedy word gens ok (rows_of b) n 0) (ap (λ (k : ℕ). take k c.numbers) z)
            (let e : length gens - 0 ≡ length gens = omega arith in e));
      }
    where
      none : c.len ≡ 0 → chosen word gens (numbers_of c) ≡ []
      none z = unfold chosen in ap (λ (k : ℕ). chosen word gens (take k c.numbers)) z

  -- the next generator
  step : (C : List ℕ) (i : ℕ) (t : Bool) → i < length gens → wanted word gens ok C i ≡ t
      → from C i ≡ cond t (i ∷ from (insert word C (gen i)) (i + 1)) (from C (i + 1))
  unfolding greedy generator
  step C i t l e = ap (λ (m : ℕ). greedy word gens ok C m i) (let z : length gens - i ≡ suc n = omega arith in z) ∙ ap both e ∙ go t
    where
      n : ℕ
      n = length gens - (i + 1)

      both : Bool → List ℕ
      both u = cond u (i ∷ greedy word gens ok (cond u (insert word C (gen i)) C) n (suc i)) (greedy word gens ok (cond u (insert word C (gen i)) C) n (suc i))

      next : suc i ≡ i + 1
      next = omega arith

      go : (u : Bool) → both u ≡ cond u (i ∷ greedy word gens ok (insert word C (gen i)) n (i + 1)) (greedy word gens ok C n (i + 1))
      go true = ap (λ (k : ℕ). i ∷ greedy word gens ok (insert word C (gen i)) n k) next
      go false = ap (greedy word gens ok C n) next

  -- the test by its two parts
  tested : (C : List ℕ) (i : ℕ) (s t : Bool) → ok i ≡ s → inside word C (gen i) ≡ t → wanted word gens ok C i ≡ (s && not t)
  unfolding wanted generator
  tested C i s t p q = ap₂ (λ (x y : Bool). x && not y) p q

  module _ (b : Basis) (c : Choice) (i : ℕ) (I : Choosing b c i) (l : i < length gens) where
    past : wanted word gens ok (rows_of b) i ≡ false → Choosing b c (i + 1)
    past e =
        record {
          within = omega arith;
          valid = I.valid;
          chose = I.chose;
          even = I.even;
          is = I.is ∙ ap (λ (r : List ℕ). numbers_of c ++ r) (step (rows_of b) i false l e);
        }

    pub choosing_failed : ok i ≡ false → Choosing b c (i + 1)
    choosing_failed p = past (tested (rows_of b) i false (inside word (rows_of b) (gen i)) p refl)

    pub choosing_spanned : ok i ≡ true → inside word (rows_of b) (get_or gens i 0) ≡ true → Choosing b c (i + 1)
    choosing_spanned p q = past (tested (rows_of b) i true true p q)

    module _ (p : ok i ≡ true) (q : inside word (rows_of b) (get_or gens i 0) ≡ false) (b' : Basis)
        (H : Holds (insert word (rows_of b) (get_or gens i 0)) b') where
      taken : wanted word gens ok (rows_of b) i ≡ true
      taken = tested (rows_of b) i true false p q

      -- the basis has one row more
      grown : b'.len ≡ c.len + 1
      grown =
          let n : length (insert word (rows_of b) (gen i)) ≡ suc (length (rows_of b)) =
          insertion_new word (rows_of b) (gen i) I.valid.reduced (unfold generator in wanted_new word gens ok (rows_of b) I.valid.reduced i taken) in
          omega (arith, n, rows_length b I.valid, rows_length b' H.valid, ap length H.is, I.even)

      pub choosing_room : c.len < 64
      choosing_room = omega (arith, grown, H.valid.room)

      pub choosing_take : (c' : Choice) → Added c i (get_or gens i 0) c' → Choosing b' c' (i + 1)
      unfolding chosen generator
      choosing_take c' A =
          record {
            within = omega arith;
            valid = H.valid;
            chose =
                record {
                  whole = A.whole;
                  numbers = refl;
                  forms =
                      A.forms ∙ ap (λ (p : List ℕ). p ++ gen i ∷ []) I.chose.forms ∙ sym (chosen_append word gens [] (numbers_of c) (i ∷ []))
                      ∙ ap (chosen word gens) (sym A.numbers);
                };
            even =
                omega (
                  arith,
                  grown,
                  numbers_length c I.chose.whole,
                  numbers_length c' A.whole,
                  ap length A.numbers,
                  length-append (numbers_of c) (i ∷ []),
                );
            is =
                I.is ∙ ap (λ (r : List ℕ). numbers_of c ++ r) (step (rows_of b) i true l taken)
                ∙ sym (append_assoc (numbers_of c) (i ∷ []) (from (insert word (rows_of b) (gen i)) (i + 1)))
                ∙ ap₂ (λ (p C : List ℕ). p ++ from C (i + 1)) (sym A.numbers) (sym H.is);
          }

  pub choosing_end : (b : Basis) (c : Choice) (i : ℕ) → Choosing b c i → length gens ≤ i → Chose gens (greedy word gens ok [] (length gens) 0) c
  unfolding greedy
  choosing_end b c i I l =
      let e : numbers_of c ≡ all =
      sym (I.is ∙ ap (λ (n : ℕ). numbers_of c ++ greedy word gens ok (rows_of b) n i) (let z : length gens - i ≡ 0 = omega arith in z)
      ∙ append-nil (numbers_of c)) in
      record { whole = I.chose.whole; numbers = e; forms = I.chose.forms ∙ ap (chosen word gens) e }
