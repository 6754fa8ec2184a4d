-- Numbers taken one after the other, each a next one: they are the greedy extension of the space that they span.
--   Steps C lo hi es == es rises from lo on and below hi, and each number is next after C and those before it
--   steps_more, steps_snoc   a higher bound; one number more
--   steps_low                what stands below all the numbers and is in the space was there before
--   steps_length             each number brings one dimension
--   steps_greedy             the numbers are the greedy choice
-- Assumes nothing.
use Rattle.std.specs.Prelude.{◌≡◌, Bool}
use Rattle.std.proofs.Math.Path.{refl, ap, subst}
use Rattle.std.proofs.Common.{sym, ap₂, ◌∙◌}
use Rattle.std.proofs.Math.Bool.{cond}
use mathlib.Core.List.{List, [], ◌∷◌, ◌++◌}
use Prim.Native.Nat.{ℕ, zero, suc, ◌+◌, ◌<◌, ◌≤◌}
use native.Mathlib.Omega.{arith}
use Rattle.std.proofs.Math.Decide.{ℕ_discrete}
use Rattle.std.proofs.Math.ListN.{length}
use Rattle.linear.specs.Space.{Space}
use Rattle.linear.specs.Span.{Span}
use Rattle.linear.specs.Basis.{insert, inserts, Reduced}
use Rattle.linear.specs.Entry.{inside, generator, chosen}
use Rattle.linear.specs.Walk.{Next, Steps}
use Rattle.linear.specs.laws.Span.{span_head}
use Rattle.linear.proofs.laws.Reduce.{member}
use Rattle.linear.proofs.laws.Insert.{insert_reduced, insert_length_new, inserts_reduced, inserts_span}
use Rattle.linear.proofs.laws.Entry.{inside_yes, yes_inside}
use Rattle.linear.specs.Greedy.{wanted, greedy}
use Rattle.linear.proofs.laws.Greedy.{wanted_true, wanted_false}

module _ (S : Space) (gens : List S.Vec) where
  open S use {Vec}

  pub steps_more : (p : List ℕ) (C : List Vec) (lo hi hi' : ℕ) → hi ≤ hi' → Steps S gens C lo hi p → Steps S gens C lo hi' p
  steps_more [] C lo hi hi' h s = tt
  steps_more (e ∷ p) C lo hi hi' h s = (
    s.0,
    (let l : e < hi = s.1 in omega arith),
    s.2,
    steps_more p (insert S C (generator S gens e)) (suc e) hi hi' h
        s.3,
  )

  pub steps_snoc : (p : List ℕ) (C : List Vec) (lo i : ℕ) → Steps S gens C lo i p → lo ≤ i → Next S gens (inserts S C (chosen S gens p)) i
      → Steps S gens C lo (suc i) (p ++ i ∷ [])
  unfolding inserts chosen
  steps_snoc [] C lo i s l n = (l, omega arith, n, tt)
  steps_snoc (e ∷ p) C lo i s l n = (
    s.0,
    (let k : e < i = s.1 in omega arith),
    s.2,
    steps_snoc p (insert S C (generator S gens e)) (suc e) i s.3
        (let k : e < i = s.1 in omega arith) n,
  )

  -- what stands below all the numbers and is in the space was there before
  pub steps_low : (p : List ℕ) (C : List Vec) (lo hi j : ℕ) → Steps S gens C lo hi p → j < lo → Span S (inserts S C (chosen S gens p)) (generator S gens j)
      → Span S C (generator S gens j)
  unfolding inserts chosen
  steps_low [] C lo hi j s l t = t
  steps_low (e ∷ p) C lo hi j s l t =
      let k : lo ≤ e = s.0 in
      s.2.first j (omega arith) (steps_low p (insert S C (generator S gens e)) (suc e) hi j s.3 (omega arith) t)

  pub steps_length : (p : List ℕ) (C : List Vec) (lo hi : ℕ) → Reduced S C → Steps S gens C lo hi p → length (inserts S C (chosen S gens p)) ≡ length C + length p
  unfolding inserts chosen
  steps_length [] C lo hi ρ s = omega arith
  steps_length (e ∷ p) C lo hi ρ s =
      let g : Vec = generator S gens e in
      let a : length (insert S C g) ≡ suc (length C) = insert_length_new S C g (λ z. s.2.new ((member S C ρ g).1 z)) in
      let b : length (inserts S (insert S C g) (chosen S gens p)) ≡ length (insert S C g) + length p =
      steps_length p (insert S C g) (suc e) hi (insert_reduced S C g ρ) s.3 in
      omega arith

  -- the test of an extension
  abbrev is_in : List Vec → ℕ → Bool
  is_in W j = inside S W (generator S gens j)

  pub steps_greedy : (n : ℕ) (p : List ℕ) (C W : List Vec) (i hi : ℕ) → i + n ≡ hi → Reduced S C → W ≡ inserts S C (chosen S gens p) → Steps S gens C i hi p
      → greedy S gens (λ j. inside S W (generator S gens j)) C n i ≡ p
  unfolding greedy inserts chosen
  steps_greedy zero [] C W i hi q ρ w s = refl
  steps_greedy zero (e ∷ p) C W i hi q ρ w s = absurd (omega (arith, s.0, s.1))
  steps_greedy (suc n) [] C W i hi q ρ w s =
      ap (λ t. cond t (i ∷ greedy S gens (is_in W) (cond t (insert S C (generator S gens i)) C) n (suc i)) (greedy S gens (is_in W) (cond t (insert S C
      (generator S gens i)) C) n (suc i)))
      (wanted_false S gens (is_in W) C ρ i (λ x. subst (λ X. Span S X (generator S gens i)) w (inside_yes S W (generator S gens i) x)))
      ∙ steps_greedy n [] C W (suc i) hi (omega arith) ρ w tt
  steps_greedy (suc n) (e ∷ p) C W i hi q ρ w s =
      go (ℕ_discrete e i) (λ b. steps_greedy n p (insert S C (generator S gens e)) W (suc i) hi (omega arith) (insert_reduced S C (generator S gens e) ρ) w b)
      (λ b. steps_greedy n (e ∷ p) C W (suc i) hi (omega arith) ρ w b)
    where
      f : Vec
      f = generator S gens i

      run : Bool → List ℕ
      run t = cond t (i ∷ greedy S gens (is_in W) (cond t (insert S C f) C) n (suc i)) (greedy S gens (is_in W) (cond t (insert S C f) C) n (suc i))

      σ : Reduced S W
      σ = subst (Reduced S) (sym w) (inserts_reduced S (chosen S gens p) (insert S C (generator S gens e)) (insert_reduced S C (generator S gens e) ρ))

      in_w : Span S W (generator S gens e)
      in_w = subst (λ X. Span S X (generator S gens e)) (sym w) ((inserts_span S (generator S gens e ∷ chosen S gens p) C (generator S gens e)).1
          (span_head S (generator S gens e) (chosen S gens p ++ C)))

      go : Dec (e ≡ i) → (Steps S gens (insert S C (generator S gens e)) (suc i) hi p → greedy S gens (is_in W) (insert S C (generator S gens e)) n (suc i) ≡ p)
          → (Steps S gens C (suc i) hi (e ∷ p) → greedy S gens (is_in W) C n (suc i) ≡ e ∷ p) → run (wanted S gens (is_in W) C i) ≡ e ∷ p
      go (yes d) a b =
          ap run (wanted_true S gens (is_in W) C i (yes_inside S W σ f (subst (λ x. Span S W (generator S gens x)) d in_w))
          (λ x. s.2.new (subst (λ y. Span S C (generator S gens y)) (sym d) x)))
          ∙ ap₂ ◌∷◌ (sym d) (ap (λ x. greedy S gens (is_in W) (insert S C (generator S gens x)) n (suc i)) (sym d) ∙ a (subst (λ x. Steps S gens (insert S C
          (generator S gens e)) (suc x) hi p) d s.3))
      go (no d) a b =
          let l : i ≤ e = s.0 in
          ap run (wanted_false S gens (is_in W) C ρ i
          (λ x. steps_low (e ∷ p) C (suc i) hi i (omega arith, s.1, s.2, s.3) (omega arith) (subst (λ X. Span S X f) w (inside_yes S W f x))))
          ∙ b (omega arith, s.1, s.2, s.3)
