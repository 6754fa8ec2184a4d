-- The generators with given numbers, one after the other.
--   Picked gens numbers c i == c holds the generators with the first i of the numbers
--   picked_start, picked_room, picked_next, picked_end   the loop
-- Assumes nothing.
use Rattle.std.specs.Prelude.{◌≡◌, refl, length}
use Rattle.std.proofs.Math.Path.{sym, ap}
use Rattle.std.proofs.Common.{◌∙◌, length-take-le}
use mathlib.Core.List.{List, [], ◌∷◌, ◌++◌}
use Prim.Native.Nat.{ℕ, zero, suc, ◌<◌, ◌≤◌}
use native.Mathlib.Omega.{arith}
use Rattle.std.proofs.Math.ListN.{get_or, take}
use Rattle.std.proofs.Math.Seq.{take-length}
use Rattle.linear.specs.Entry.{generator, chosen}
use Rattle.linear.specs.Word.{word}
use Rattle.linear.proofs.laws.Extension.{chosen_append}
use Rattle.choices.specs.declared.Choice.{Choice}
use Rattle.kinds.specs.Limits.{most_products}
use Rattle.choices.specs.Choice.{Whole, Chose, Added}
use Rattle.choices.specs.laws.Writing.{numbers_length}

take_next : (xs : List ℕ) (i : ℕ) → i < length xs → take (suc i) xs ≡ take i xs ++ get_or xs i 0 ∷ []
take_next [] i l = absurd (omega arith)
take_next (x ∷ xs) zero l = refl
take_next (x ∷ xs) (suc i) l = ap (λ (r : List ℕ). x ∷ r) (take_next xs i (omega arith))

module _ (gens numbers : List ℕ) where
  abbrev pub Picked : Choice → ℕ → Type 0
  Picked c i = (i ≤ length numbers) × Chose gens (take i numbers) c

  pub picked_start : (c : Choice) → Whole c → c.len ≡ 0 → Picked c 0
  picked_start c W z =
      (omega arith, record { whole = W; numbers = ap (λ (n : ℕ). take n c.numbers) z; forms = unfold chosen in ap (λ (n : ℕ). take n c.forms) z })

  pub picked_next : (c r : Choice) (i : ℕ) → Picked c i → i < length numbers → Added c (get_or numbers i 0) (get_or gens (get_or numbers i 0) 0) r → Picked r (suc i)
  unfolding chosen generator
  picked_next c r i P l A =
      let j : ℕ = get_or numbers i 0 in (
        omega arith,
        record {
          whole = A.whole;
          numbers = A.numbers ∙ ap (λ (p : List ℕ). p ++ j ∷ []) P.1.numbers ∙ sym (take_next numbers i l);
          forms =
              A.forms ∙ ap (λ (p : List ℕ). p ++ get_or gens j 0 ∷ []) P.1.forms ∙ sym (chosen_append word gens [] (take i numbers) (j ∷ []))
              ∙ ap (chosen word gens) (sym (take_next numbers i l));
        },
      )

  -- there is room for one more
  pub picked_room : (c : Choice) (i : ℕ) → Picked c i → i < length numbers → length numbers ≤ most_products → c.len < most_products
  picked_room c i P l h =
      omega (arith, numbers_length c P.1.whole, ap length P.1.numbers, length-take-le i numbers (let g : i ≤ length numbers = P.0 in g))

  pub picked_end : (c : Choice) (i : ℕ) → Picked c i → length numbers ≤ i → Chose gens numbers c
  picked_end c i P l =
      let e : take i numbers ≡ numbers = ap (λ (n : ℕ). take n numbers) (let z : i ≡ length numbers = omega (arith, P.0) in z) ∙ take-length numbers in
      record { whole = P.1.whole; numbers = P.1.numbers ∙ e; forms = P.1.forms ∙ ap (chosen word gens) e }
