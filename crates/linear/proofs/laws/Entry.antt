-- Each entry is a solution space; no space comes twice; the entries are in dictionary order. That each solution space is there is `Extension`'s.
-- Assumes nothing.
use Rattle.std.specs.Prelude.{◌≡◌, ◌≢◌, Bool, ℕ, ◌-◌, eqb}
use Rattle.std.proofs.Math.Path.{refl, sym, ap, ap₂}
use Rattle.std.proofs.Common.{◌∙◌, true≢false, arith}
use Rattle.std.proofs.Math.Bool.{true, false, ◌&&◌, and-eq-true_iff}
use Rattle.std.proofs.lemmas.Bool.{false≢true}
use mathlib.Core.List.{List, [], ◌∷◌, cons≢nil, nil≢cons, head-eq_of_cons-eq, tail-eq_of_cons-eq}
use mathlib.Core.List.Memᴰ
use mathlib.Core.List.{Memᴰ}
use Rattle.std.proofs.Math.ListN.{length}
use borrow.Author.Tests.{eqb-true, eq-eqb}
use Rattle.linear.specs.Space.{Space}
use Rattle.linear.specs.Span.{Span, Within}
use Rattle.linear.specs.Basis.{reduce, basis_of, Reduced, dim}
use Rattle.linear.specs.Order.{Before, Rising, rising_lists, Ordered}
use Rattle.linear.specs.Select.{Once}
use Rattle.linear.specs.Entry.{same_vec, same_basis, inside, generator, chosen, generators_in, fits, Solution, space, entries}
use Rattle.linear.specs.laws.Space.{add_nul, take_put, one_scale, minus_add}
use Rattle.linear.specs.laws.Span.{mem_cons, span_mem, span_bind, span_mono}
use Rattle.linear.proofs.laws.Reduce.{member}
use Rattle.linear.proofs.laws.Insert.{is_nul_nul, span_of_reduce, inserts_reduced, inserts_span, basis_of_reduced, basis_of_span}
use Rattle.linear.proofs.laws.Dimension.{basis_of_is, same_size}
use Rattle.linear.proofs.laws.Order.{rising_sound, rising_ordered}
use Rattle.linear.proofs.laws.Select.{only_mem, first_mem, first_once, first_ordered}

module _ (S : Space) where
  open S use {fld, Vec, nul, add, scale, is_nul, is_nul_yes, is_nul_no}
  open fld use {𝟘, 𝟙, neg}

  pub same_vec_yes : (u v : Vec) → same_vec S u v ≡ true → u ≡ v
  unfolding same_vec
  same_vec_yes u v e =
      sym (one_scale S u) ∙ sym (add_nul S (scale 𝟙 u)) ∙ ap (add (scale 𝟙 u)) (sym (is_nul_yes (add (scale (neg 𝟙) u) v) e)) ∙ take_put S 𝟙 u v

  minus_self : (u : Vec) → add (scale (neg 𝟙) u) u ≡ nul
  minus_self u = ap (add (scale (neg 𝟙) u)) (sym (add_nul S u)) ∙ minus_add S u nul

  pub same_vec_no : (u v : Vec) → same_vec S u v ≡ false → u ≢ v
  unfolding same_vec
  same_vec_no u v e q = is_nul_no (add (scale (neg 𝟙) u) v) e (ap (add (scale (neg 𝟙) u)) (sym q) ∙ minus_self u)

  pub same_basis_yes : (B C : List Vec) → same_basis S B C ≡ true → B ≡ C
  unfolding same_basis
  same_basis_yes [] [] e = refl
  same_basis_yes [] (c ∷ C) e = absurd (false≢true e)
  same_basis_yes (b ∷ B) [] e = absurd (false≢true e)
  same_basis_yes (b ∷ B) (c ∷ C) e = go (same_vec S b c) refl e (same_basis_yes B C)
    where
      go : (t : Bool) → same_vec S b c ≡ t → t && same_basis S B C ≡ true → (same_basis S B C ≡ true → B ≡ C) → b ∷ B ≡ c ∷ C
      go true q e ih = ap₂ ◌∷◌ (same_vec_yes b c q) (ih e)
      go false q e ih = absurd (false≢true e)

  pub same_basis_no : (B C : List Vec) → same_basis S B C ≡ false → B ≢ C
  unfolding same_basis
  same_basis_no [] [] e = λ q. absurd (true≢false e)
  same_basis_no [] (c ∷ C) e = λ q. nil≢cons q
  same_basis_no (b ∷ B) [] e = λ q. cons≢nil q
  same_basis_no (b ∷ B) (c ∷ C) e = go (same_vec S b c) refl e (same_basis_no B C)
    where
      go : (t : Bool) → same_vec S b c ≡ t → t && same_basis S B C ≡ false → (same_basis S B C ≡ false → B ≢ C) → b ∷ B ≢ c ∷ C
      go true q e ih = λ p. ih e (tail-eq_of_cons-eq p)
      go false q e ih = λ p. same_vec_no b c q (head-eq_of_cons-eq p)

  pub same_yes : (B C : List Vec) → B ≡ C → same_basis S B C ≡ true
  same_yes B C e = go (same_basis S B C) refl
    where
      go : (t : Bool) → same_basis S B C ≡ t → same_basis S B C ≡ true
      go true q = q
      go false q = absurd (same_basis_no B C q e)

  pub inside_yes : (B : List Vec) (v : Vec) → inside S B v ≡ true → Span S B v
  unfolding inside
  inside_yes B v e = span_of_reduce S B v (is_nul_yes (reduce S B v) e)

  pub yes_inside : (B : List Vec) → Reduced S B → (v : Vec) → Span S B v → inside S B v ≡ true
  unfolding inside
  yes_inside B ρ v s = ap is_nul ((member S B ρ v).0 s) ∙ is_nul_nul S

  pub no_inside : (B : List Vec) (v : Vec) → ¬ Span S B v → inside S B v ≡ false
  no_inside B v h = go (inside S B v) refl
    where
      go : (t : Bool) → inside S B v ≡ t → inside S B v ≡ false
      go true e = absurd (h (inside_yes B v e))
      go false e = e

  module _ (gens : List Vec) where
    -- the generators with the numbers es: each has one of them, and all of these are there
    pub chosen_each : (P : Vec → Type 0) (es : List ℕ) → ((e : ℕ) → Memᴰ e es → P (generator S gens e)) → (x : Vec) → Memᴰ x (chosen S gens es) → P x
    unfolding chosen
    chosen_each P [] h = λ x m. absurd (Memᴰ.not-nil m)
    chosen_each P (e ∷ es) h = mem_cons {P = P} (h e (Memᴰ.head refl)) (chosen_each P es (λ f m. h f (Memᴰ.tail m)))

    pub mem_chosen : (es : List ℕ) (e : ℕ) → Memᴰ e es → Memᴰ (generator S gens e) (chosen S gens es)
    unfolding chosen
    mem_chosen [] = λ e m. absurd (Memᴰ.not-nil m)
    mem_chosen (f ∷ es) =
        mem_cons {P = λ e. Memᴰ (generator S gens e) (generator S gens f ∷ chosen S gens es)} (Memᴰ.head refl)
        (λ e m. Memᴰ.tail (mem_chosen es e m))

    pub generators_in_within : (B : List Vec) → Within S (generators_in S gens B) B
    unfolding generators_in
    generators_in_within B v s = span_bind S (λ x m. inside_yes B x (only_mem (inside S B) gens x m).1) s

    pub fits_yes : (k : ℕ) (B : List Vec) → Reduced S B → fits S gens k B ≡ true
        → (length B ≡ k) × ((v : Vec) → Span S B v → Span S (generators_in S gens B) v)
    unfolding fits
    fits_yes k B ρ e =
        let p : (eqb (length B) k ≡ true) × (eqb (dim S (generators_in S gens B)) k ≡ true) = (and-eq-true_iff (eqb (length B) k) (eqb (dim S
        (generators_in S gens B)) k)).0 e in
        let a : length B ≡ k = eqb-true (length B) k p.0 in
        let b : dim S (generators_in S gens B) ≡ k = eqb-true (dim S (generators_in S gens B)) k p.1 in
        (a, same_size S B (generators_in S gens B) ρ (generators_in_within B) (omega arith))

    pub yes_fits : (k : ℕ) (B : List Vec) → Reduced S B → length B ≡ k → ((v : Vec) → Span S B v → Span S (generators_in S gens B) v) → fits S gens k B ≡ true
    unfolding fits
    yes_fits k B ρ e h =
        ap₂ ◌&&◌ (eq-eqb (length B) k e) (eq-eqb (dim S (generators_in S gens B)) k (unfold dim in ap length (basis_of_is S B (generators_in S gens B) ρ h
        (generators_in_within B)) ∙ e))

  module _ (gens targets : List Vec) where
    pub space_reduced : (es : List ℕ) → Reduced S (space S gens targets es)
    unfolding space
    space_reduced es = inserts_reduced S (chosen S gens es) (basis_of S targets) (basis_of_reduced S targets)

    pub space_holds : (es : List ℕ) (t : Vec) → Memᴰ t targets → Span S (space S gens targets es) t
    unfolding space
    space_holds es t m = (inserts_span S (chosen S gens es) (basis_of S targets) t).1 (span_mono S (λ x k. Memᴰ.append_right (chosen S gens es) k)
        ((basis_of_span S targets t).1 (span_mem S m)))

    pub entries_sound : (k : ℕ) (es : List ℕ) → Memᴰ es (entries S gens targets k) → Solution S gens targets k (space S gens targets es)
    unfolding entries
    entries_sound k es m =
        let r = first_mem (space S gens targets) (fits S gens k) (same_basis S) same_basis_yes same_basis_no (rising_lists (length gens) 0
        (k - dim S targets)) [] es m in
        let f = fits_yes gens k (space S gens targets es) (space_reduced es) r.1 in
        record { reduced = space_reduced es; size = f.0; holds = space_holds es; spanned = f.1 }

    pub entries_shape : (k : ℕ) (es : List ℕ) → Memᴰ es (entries S gens targets k) → (length es ≡ k - dim S targets) × Rising 0 (length gens) es
    unfolding entries
    entries_shape k es m =
        let n = k - dim S targets in
        let r = first_mem (space S gens targets) (fits S gens k) (same_basis S) same_basis_yes same_basis_no (rising_lists (length gens) 0 n) [] es m in
        rising_sound (length gens) 0 n (length gens) (omega arith) es r.0

    pub entries_once : (k : ℕ) → Once (space S gens targets) (entries S gens targets k)
    unfolding entries
    entries_once k = first_once (space S gens targets) (fits S gens k) (same_basis S) same_basis_yes same_basis_no (rising_lists (length gens) 0
        (k - dim S targets)) []

    pub entries_ordered : (k : ℕ) → Ordered Before (entries S gens targets k)
    unfolding entries
    entries_ordered k = first_ordered (space S gens targets) (fits S gens k) (same_basis S) same_basis_yes same_basis_no Before (rising_lists (length gens) 0
        (k - dim S targets)) [] (rising_ordered (length gens) 0 (k - dim S targets))
