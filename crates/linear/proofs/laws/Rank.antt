-- Entries and rank.
--   solution_from   k or fewer generators that compute the targets give a solution space for k, if the generators span k dimensions
--   chosen_from     a solution space for k gives k generators that compute the targets
--   no_entry        no entry for k: no k or fewer generators compute the targets
--   entries_below   no entry for a k below the targets' dimension
--   rank_is         the least k with an entry is the rank
-- Assumes nothing.
use Rattle.std.specs.Prelude.{◌≡◌, refl, ◌⊎◌, ℕ, suc, ◌<◌, ◌≤◌}
use Rattle.std.proofs.Common.{sym, ap, subst, inl, inr}
use mathlib.Core.List.Memᴰ
use mathlib.Core.List.{List, [], ◌∷◌, Memᴰ}
use native.Mathlib.Omega.{arith}
use Rattle.std.proofs.Math.Decide.{dec_lt, ℕ_discrete}
use Rattle.std.proofs.Math.ListN.{length}
use Rattle.linear.specs.Space.{Space}
use Rattle.linear.specs.Span.{Span, Within}
use Rattle.linear.specs.Basis.{reduce, insert, inserts, basis_of, Reduced, dim}
use Rattle.linear.specs.Order.{Rising}
use Rattle.linear.specs.Entry.{inside, generator, chosen, generators_in, Solution, space, entries}
use Rattle.linear.specs.Rank.{Chosen, Computes, Rank}
use Rattle.linear.specs.laws.Span.{mem_cons, span_mem, span_bind, span_mono, span_weak, span_head}
use Rattle.linear.proofs.laws.Insert.{dec_nul, insert_old, insert_reduced, insert_span, insert_length_new, inserts_reduced, inserts_span, basis_of_reduced, basis_of_span}
use Rattle.linear.proofs.laws.Dimension.{dim_length, sub_length}
use Rattle.linear.proofs.laws.Order.{mem_get_d}
use Rattle.linear.proofs.laws.Select.{only_mem, mem_only}
use Rattle.linear.proofs.laws.Entry.{yes_inside, generators_in_within, entries_sound}
use Rattle.linear.proofs.laws.Greedy.{greedy_rising}
use Rattle.linear.specs.Extension.{extension}
use Rattle.linear.proofs.laws.Extension.{chosen_length, extension_space, extension_length, entries_complete}

module _ (S : Space) (gens targets : List S.Vec) where
  open S use {Vec, nul}

  -- the menu's chosen inside C span it
  abbrev Spanned : List Vec → Type 0
  Spanned C = Within S C (generators_in S gens C)

  pub generators_in_mem : (C : List Vec) → Reduced S C → (x : Vec) → Memᴰ x gens → Span S C x → Memᴰ x (generators_in S gens C)
  unfolding generators_in
  generators_in_mem C ρ x m s = mem_only (inside S C) gens x m (yes_inside S C ρ x s)

  pub generators_in_gens : (C : List Vec) (x : Vec) → Memᴰ x (generators_in S gens C) → Memᴰ x gens
  unfolding generators_in
  generators_in_gens C x m = (only_mem (inside S C) gens x m).0

  spanned_nil : Spanned []
  spanned_nil v s = span_bind S (λ x m. absurd (Memᴰ.not-nil m)) s

  spanned_insert : (C : List Vec) (g : Vec) → Reduced S C → Memᴰ g gens → Spanned C → Spanned (insert S C g)
  spanned_insert C g ρ m h v s =
      span_bind S
      (mem_cons {P = Span S (generators_in S gens D)}
      (span_mem S (generators_in_mem D σ g m ((insert_span S C g g).1 (span_head S g C))))
      (λ x k. span_bind S up (h x (span_mem S k))))
      ((insert_span S C g v).0 s)
    where
      D : List Vec
      D = insert S C g

      σ : Reduced S D
      σ = insert_reduced S C g ρ

      up : (y : Vec) → Memᴰ y (generators_in S gens C) → Span S (generators_in S gens D) y
      up y k = span_mem S (generators_in_mem D σ y (generators_in_gens C y k) ((insert_span S C g y).1 (span_weak S (generators_in_within S gens C y
          (span_mem S k)))))

  insert_le : (C : List Vec) (g : Vec) → length (insert S C g) ≤ suc (length C)
  insert_le C g = go (dec_nul S (reduce S C g))
    where
      go : Dec (reduce S C g ≡ nul) → length (insert S C g) ≤ suc (length C)
      go (yes e) = omega (arith, ap length (insert_old S C g e))
      go (no h) = omega (arith, insert_length_new S C g h)

  spanned_inserts : (xs C : List Vec) → Chosen S gens xs → Reduced S C → Spanned C → Spanned (inserts S C xs)
  unfolding inserts
  spanned_inserts [] C h ρ s = s
  spanned_inserts (x ∷ xs) C h ρ s =
      spanned_inserts xs (insert S C x) (λ y m. h y (Memᴰ.tail m)) (insert_reduced S C x ρ) (spanned_insert C x ρ (h x (Memᴰ.head refl)) s)

  -- chosen are added one by one until there are k rows
  climb : (k : ℕ) (gs C : List Vec) → ((g : Vec) → Memᴰ g gs → Memᴰ g gens) → Reduced S C → Spanned C → length C ≤ k → k ≤ length (inserts S C gs)
      → (W : List Vec) × Reduced S W × (length W ≡ k) × Within S C W × Spanned W
  unfolding inserts
  climb k [] C h ρ s a b = (C, ρ, omega arith, (λ v t. t), s)
  climb k (g ∷ gs) C h ρ s a b =
      go (ℕ_discrete (length C) k)
      (λ c. climb k gs (insert S C g) (λ x m. h x (Memᴰ.tail m)) (insert_reduced S C g ρ) (spanned_insert C g ρ (h g (Memᴰ.head refl)) s) c b)
    where
      go : Dec (length C ≡ k) → (length (insert S C g) ≤ k → (W : List Vec) × Reduced S W × (length W ≡ k) × Within S (insert S C g) W × Spanned W)
          → (W : List Vec) × Reduced S W × (length W ≡ k) × Within S C W × Spanned W
      go (yes e) f = (C, ρ, e, (λ v t. t), s)
      go (no n) f = let r = f (omega (arith, insert_le C g)) in (r.0, r.1, r.2, (λ v t. r.3 v ((insert_span S C g v).1 (span_weak S t))), r.4)

  -- k or fewer chosen of the gens with the targets in their span give an entry for k
  pub solution_from : (k : ℕ) → k ≤ dim S gens → (xs : List Vec) → Chosen S gens xs → length xs ≤ k
      → Computes S targets xs → (W : List Vec) × Solution S gens targets k W
  unfolding dim basis_of
  solution_from k a xs h l t =
      let r = climb k gens C (λ g m. m) (basis_of_reduced S xs) (spanned_inserts xs [] h tt spanned_nil) (omega (arith, dim_length S xs)) (omega
      (arith, more)) in
      (r.0, record { reduced = r.1; size = r.2; holds = (λ x m. r.3 x ((basis_of_span S xs x).1 (t x m))); spanned = r.4 })
    where
      C : List Vec
      C = basis_of S xs

      more : length (basis_of S gens) ≤ length (inserts S C gens)
      more =
          sub_length S (inserts S C gens) (basis_of S gens) (basis_of_reduced S gens) (inserts_reduced S gens C (basis_of_reduced S xs))
          (λ v s. (inserts_span S gens C v).1 (span_mono S (λ x m. Memᴰ.append_left C m) ((basis_of_span S gens v).0 s)))

  -- no entry for k: no k or fewer chosen of the gens have the targets in their span
  pub no_entry : (k : ℕ) → k ≤ dim S gens → entries S gens targets k ≡ [] → (xs : List Vec) → Chosen S gens xs → length xs ≤ k
      → Computes S targets xs → ⊥
  no_entry k a e xs h l t =
      let E = solution_from k a xs h l t in
      let r = entries_complete S gens targets k E.0 E.1 in
      Memᴰ.not-nil (subst (λ L. Memᴰ r.0 L) e r.1)

  pub chosen_gens : (lo : ℕ) (fs : List ℕ) → Rising lo (length gens) fs → (x : Vec) → Memᴰ x (chosen S gens fs) → Memᴰ x gens
  unfolding chosen generator
  chosen_gens lo [] r = λ x m. absurd (Memᴰ.not-nil m)
  chosen_gens lo (f ∷ fs) r = mem_cons {P = λ x. Memᴰ x gens} (mem_get_d gens f nul r.1) (chosen_gens (suc f) fs r.2)

  -- and back: an entry for k has k chosen of the gens with the targets in their span
  pub chosen_from : (k : ℕ) (W : List Vec) → Solution S gens targets k W
      → (xs : List Vec) × (length xs ≡ k) × Chosen S gens xs × Computes S targets xs
  unfolding dim basis_of inserts space generators_in
  chosen_from k W E = (
    chosen S gens es,
    omega (arith, chosen_length S gens [] es, extension_length S gens [] k W E'),
    chosen_gens 0 es rising,
    λ t m. span_mono S (λ x j. back x (Memᴰ.append_cases (chosen S gens es) j))
        ((inserts_span S (chosen S gens es) [] t).0 (subst (λ X. Span S X t) (sym (extension_space S gens [] k W E')) (E.holds t m))),
  )
    where
      E' : Solution S gens [] k W
      E' = record { reduced = E.reduced; size = E.size; holds = (λ t m. absurd (Memᴰ.not-nil m)); spanned = E.spanned }

      es : List ℕ
      es = extension S gens [] W

      rising : Rising 0 (length gens) es
      rising = unfold extension in greedy_rising S gens (λ j. inside S W (generator S gens j)) (length gens) 0 (length gens) (basis_of S []) (omega arith)

      back : (x : Vec) → Memᴰ x (chosen S gens es) ⊎ Memᴰ x [] → Memᴰ x (chosen S gens es)
      back x (inl m) = m
      back x (inr m) = absurd (Memᴰ.not-nil m)

  -- ---- the least k with an entry is the rank
  pub entries_below : (k : ℕ) → k < dim S targets → entries S gens targets k ≡ []
  entries_below k h = go (entries S gens targets k) refl
    where
      short : (es : List ℕ) → Memᴰ es (entries S gens targets k) → ⊥
      short es m = unfold dim in
          let E = entries_sound S gens targets k es m in
          let a : length (basis_of S targets) ≤ length (space S gens targets es) =
          sub_length S (space S gens targets es) (basis_of S targets) (basis_of_reduced S targets) E.reduced (λ v s. span_bind S E.holds
          ((basis_of_span S targets v).0 s)) in
          omega (arith, a, E.size, h)

      go : (l : List (List ℕ)) → entries S gens targets k ≡ l → entries S gens targets k ≡ []
      go [] e = e
      go (es ∷ l) e = absurd (short es (subst (λ L. Memᴰ es L) (sym e) (Memᴰ.head refl)))

  -- a solution space has no more dimensions than the generators
  pub solution_within : (k : ℕ) (W : List Vec) → Solution S gens targets k W → k ≤ dim S gens
  solution_within k W E = unfold dim in
      let a : length W ≤ length (basis_of S gens) =
      sub_length S (basis_of S gens) W E.reduced (basis_of_reduced S gens)
      (λ v s. (basis_of_span S gens v).1 (span_mono S (generators_in_gens W) (E.spanned v s))) in
      omega (arith, a, E.size)

  pub rank_is : (r : ℕ) (es : List ℕ) → Memᴰ es (entries S gens targets r)
      → ((k : ℕ) → dim S targets ≤ k → k < r → entries S gens targets k ≡ []) → Rank S gens targets r
  rank_is r es m none =
      record { some = chosen_from r (space S gens targets es) E; least = λ xs h t. go xs h t (dec_lt (length xs) r) }
    where
      E : Solution S gens targets r (space S gens targets es)
      E = entries_sound S gens targets r es m

      empty : (k : ℕ) → k < r → Dec (k < dim S targets) → entries S gens targets k ≡ []
      empty k l (yes b) = entries_below k b
      empty k l (no b) = none k (omega arith) l

      go : (xs : List Vec) → Chosen S gens xs → Computes S targets xs → Dec (length xs < r) → r ≤ length xs
      go xs h t (yes l) =
          let w : r ≤ dim S gens = solution_within r (space S gens targets es) E in
          absurd (no_entry (length xs) (omega arith) (empty (length xs) l (dec_lt (length xs) (dim S targets))) xs h (omega arith) t)
      go xs h t (no l) = omega arith
