-- The walk finds the entries, in order.
--   walk_is     what it emits is what is emitted for the entries: for every test `stop` that stops only numbers that bring in nothing, or a multiple of what a
--               smaller number would, and that lets only next numbers pass
--   Further     m rising numbers from i on and below hi, none of them stopped, that lead from C to a space that passes
--   walk_none   where there are none, nothing is emitted
--   free_steps  numbers that are not stopped are next ones, if the test lets only these pass
-- Assumes nothing.
use Rattle.std.proofs.Math.Path.{◌≡◌, refl, ap, ap₂}
use Rattle.std.proofs.Common.{sym, ◌∙◌, subst, inl, inr, eq-eqb, eqb-true}
use Rattle.std.specs.Prelude.{◌⊎◌, ◌&&◌}
use Rattle.std.proofs.Math.Bool.{Bool, true, false, cond}
use mathlib.Core.List.Memᴰ
use mathlib.Core.List.{List, [], ◌∷◌, ◌++◌, map, map-append, append-nil, append_assoc, Memᴰ}
use Prim.Native.Nat.{ℕ, zero, suc, ◌+◌, ◌-◌, ◌<◌, ◌≤◌}
use native.Mathlib.Omega.{arith}
use Rattle.std.proofs.Math.ListN.{length, length-append}
use Rattle.std.proofs.Math.Dec.{eqb}
use Rattle.std.proofs.lemmas.Bool.{eqb-false}
use Rattle.linear.specs.Space.{Space}
use Rattle.linear.specs.Basis.{reduce, insert, inserts, basis_of, Reduced, dim}
use Rattle.linear.specs.Order.{Rising}
use Rattle.linear.specs.Entry.{generators_in, generator, chosen, space, fits, entries}
use Rattle.linear.specs.Walk.{Next, spans, walk, Steps}
use Rattle.linear.specs.laws.Space.{scale_nul}
use Rattle.linear.specs.laws.Span.{span_mem}
use Rattle.linear.proofs.laws.Reduce.{member}
use Rattle.linear.proofs.laws.Insert.{insert_reduced, inserts_span, basis_of_reduced}
use Rattle.linear.proofs.laws.Order.{RisingList, rising_from}
use Rattle.linear.proofs.laws.Entry.{mem_chosen, space_reduced}
use Rattle.linear.specs.Extension.{extension}
use Rattle.linear.proofs.laws.Extension.{prune, space_append}
use Rattle.linear.proofs.laws.Pruned.{pruned, pruned_is, canonical, canonical_listed, entries_canonical, listed_new, same_numbers, same_numbers_refl}
use Rattle.linear.proofs.laws.Canonical.{steps_more, steps_snoc, steps_length, steps_greedy}

-- ---- two prunings whose end tests agree where they come to are equal
module _ (stop : List ℕ → ℕ → Bool) (q q' : List ℕ → Bool) (R : List ℕ → ℕ → ℕ → ℕ → Type 0)
    (skip : (p : List ℕ) (n i m : ℕ) → R p (suc n) i (suc m) → R p n (suc i) (suc m))
    (take : (p : List ℕ) (n i m : ℕ) → R p (suc n) i (suc m) → stop p i ≡ false → R (p ++ i ∷ []) n (suc i) m)
    (end : (p : List ℕ) (n i : ℕ) → R p n i zero → q p ≡ q' p) where
  pub pruned_same : (p : List ℕ) (n i m : ℕ) → R p n i m → pruned stop q p n i m ≡ pruned stop q' p n i m
  unfolding pruned
  pruned_same p n i zero r = ap (λ t. cond t ([] ∷ []) []) (end p n i r)
  pruned_same p zero i (suc m) r = refl
  pruned_same p (suc n) i (suc m) r = go (stop p i) refl (λ e. pruned_same (p ++ i ∷ []) n (suc i) m (take p n i m r e)) (pruned_same p n (suc i) (suc m)
      (skip p n i m r))
    where
      go : (t : Bool) → stop p i ≡ t → (stop p i ≡ false → pruned stop q (p ++ i ∷ []) n (suc i) m ≡ pruned stop q' (p ++ i ∷ []) n (suc i) m)
          → pruned stop q p n (suc i) (suc m) ≡ pruned stop q' p n (suc i) (suc m)
          → ◌≡◌ {A = List (List ℕ)} (elim t [
            | true ↦ pruned stop q p n (suc i) (suc m)
            | false ↦ map (λ es. i ∷ es) (pruned stop q (p ++ i ∷ []) n
                (suc i) m) ++ pruned stop q p n (suc i) (suc m)
          ])
          (elim t [
            | true ↦ pruned stop q' p n (suc i) (suc m)
            | false ↦ map (λ es. i ∷ es) (pruned stop q' (p ++ i ∷ []) n (suc i) m) ++ pruned stop q' p n
                (suc i) (suc m)
          ])
      go true e a b = b
      go false e a b = ap₂ (λ u v. map (λ es. i ∷ es) u ++ v) (a e) b

-- ---- the walk goes as the pruning does
module _ (S : Space) (gens : List S.Vec) (stop : List S.Vec → ℕ → Bool) (leaf : List S.Vec → Bool) {A : Type 0} (emit : List ℕ → List
    S.Vec → A) where
  open S use {Vec}

  module _ (targets : List Vec) where
    abbrev sp : List ℕ → List Vec
    sp es = space S gens targets es

    sp_snoc : (p : List ℕ) (i : ℕ) → sp (p ++ i ∷ []) ≡ insert S (sp p) (generator S gens i)
    sp_snoc p i = space_append S gens targets p i [] ∙ (unfold inserts chosen in refl)

    pub pruned_pruned : (p : List ℕ) (n i m : ℕ)
        → walk S gens stop leaf emit (sp p) p n i m ≡ map (λ es. emit (p ++ es) (sp (p ++ es))) (pruned (λ x j. stop (sp x) j) (λ x. leaf (sp x)) p n i m)
    unfolding walk pruned
    pruned_pruned p n i zero = go (leaf (sp p))
      where
        go : (t : Bool) → cond t (emit p (sp p) ∷ []) [] ≡ map (λ es. emit (p ++ es) (sp (p ++ es))) (cond t ([] ∷ []) [])
        go true = ap (λ x. emit x (sp x) ∷ []) (sym (append-nil p))
        go false = refl
    pruned_pruned p zero i (suc m) = refl
    pruned_pruned p (suc n) i (suc m) = go (stop (sp p) i) (pruned_pruned (p ++ i ∷ []) n (suc i) m) (pruned_pruned p n (suc i) (suc m))
      where
        st : List ℕ → ℕ → Bool
        st x j = stop (sp x) j

        lf : List ℕ → Bool
        lf x = leaf (sp x)

        em : List ℕ → List ℕ → A
        em x es = emit (x ++ es) (sp (x ++ es))

        here : List (List ℕ)
        here = pruned st lf (p ++ i ∷ []) n (suc i) m

        there : List (List ℕ)
        there = pruned st lf p n (suc i) (suc m)

        shift : map (em (p ++ i ∷ [])) here ≡ map (em p) (map (λ es. i ∷ es) here)
        shift = shifts here
          where
            shifts : (l : List (List ℕ)) → map (em (p ++ i ∷ [])) l ≡ map (em p) (map (λ es. i ∷ es) l)
            shifts [] = refl
            shifts (x ∷ l) = ap₂ ◌∷◌ (ap (λ y. emit y (sp y)) (append_assoc p (i ∷ []) x)) (shifts l)

        go : (t : Bool) → walk S gens stop leaf emit (sp (p ++ i ∷ [])) (p ++ i ∷ []) n (suc i) m ≡ map (em (p ++ i ∷ [])) here
            → walk S gens stop leaf emit (sp p) p n (suc i) (suc m) ≡ map (em p) there
            → elim t [
              | true ↦ walk S gens stop leaf emit (sp p) p n (suc i) (suc m)
              | false ↦ walk S gens stop leaf emit (insert S (sp p)
                  (generator S gens i)) (p ++ i ∷ []) n (suc i) m ++ walk S gens stop leaf emit (sp p) p n (suc i) (suc m)
            ]
            ≡ map (em p) (elim t [ true ↦ there | false ↦ map (λ es. i ∷ es) here ++ there ])
        go true a b = b
        go false a b =
            ap₂ ◌++◌ (ap (λ X. walk S gens stop leaf emit X (p ++ i ∷ []) n (suc i) m) (sym (sp_snoc p i)) ∙ a ∙ shift) b
            ∙ sym (map-append (em p) (map (λ es. i ∷ es) here) there)

-- ---- what it finds are the entries
module _ (S : Space) (gens targets : List S.Vec) (stop : List S.Vec → ℕ → Bool)
    (stop_yes : (C : List S.Vec) (i : ℕ) → Reduced S C → stop C i ≡ true
    → (reduce S C (generator S gens i) ≡ S.nul)
    ⊎ ((j : ℕ) × (j < i) × (c : S.fld.K) × (d : S.fld.K) × (reduce S C (generator S gens j) ≡ S.scale c (reduce S C (generator S gens i))) ×
    (reduce S C (generator S gens i) ≡ S.scale d (reduce S C (generator S gens j)))))
    (stop_no : (C : List S.Vec) (i : ℕ) → Reduced S C → stop C i ≡ false → Next S gens C i) where
  open S use {fld, Vec, nul, scale}
  open fld use {K}

  abbrev spc : List ℕ → List Vec
  spc es = space S gens targets es

  abbrev st : List ℕ → ℕ → Bool
  st p i = stop (spc p) i

  taken_in : (p : List ℕ) (j : ℕ) → Memᴰ j p → reduce S (spc p) (generator S gens j) ≡ nul
  taken_in p j m =
      (member S (spc p) (space_reduced S gens targets p) (generator S gens j)).0
      (unfold space in (inserts_span S (chosen S gens p) (basis_of S targets) (generator S gens j)).1 (span_mem S (Memᴰ.append_left (basis_of S targets)
      (mem_chosen S gens p j m))))

  -- is j among the numbers
  dec_in : (j : ℕ) (p : List ℕ) → Dec (Memᴰ j p)
  dec_in j [] = no (λ m. Memᴰ.not-nil m)
  dec_in j (e ∷ p) = go (eqb j e) refl (dec_in j p)
    where
      tail : ¬ (j ≡ e) → (j ≡ e) ⊎ Memᴰ j p → Memᴰ j p
      tail n (inl q) = absurd (n q)
      tail n (inr m) = m

      go : (t : Bool) → eqb j e ≡ t → Dec (Memᴰ j p) → Dec (Memᴰ j (e ∷ p))
      go true q d = yes (Memᴰ.head (eqb-true j e q))
      go false q (yes m) = yes (Memᴰ.tail m)
      go false q (no n) = no (λ m. n (tail (eqb-false j e q) (Memᴰ.cases_cons m)))

  stop_sound : (k : ℕ) (p : List ℕ) (i : ℕ) (es : List ℕ) → st p i ≡ true → canonical S gens targets k (p ++ i ∷ es) ≡ false
  stop_sound k p i es b = go (canonical S gens targets k (p ++ i ∷ es)) refl
    where
      C : List Vec
      C = spc p

      ρ : Reduced S C
      ρ = space_reduced S gens targets p

      old : Memᴰ (p ++ i ∷ es) (entries S gens targets k) → reduce S C (generator S gens i) ≡ nul → ⊥
      old m z = listed_new S gens targets k p i es m ((member S C ρ (generator S gens i)).1 z)

      listed : Memᴰ (p ++ i ∷ es) (entries S gens targets k)
          → (reduce S C (generator S gens i) ≡ nul)
          ⊎ ((j : ℕ) × (j < i) × (c : K) × (d : K) × (reduce S C (generator S gens j) ≡ scale c (reduce S C (generator S gens i))) × (reduce S C
          (generator S gens i) ≡ scale d (reduce S C (generator S gens j))))
          → ⊥
      listed m (inl z) = old m z
      listed m (inr (j, l, c, d, e, f)) = old m (f ∙ ap (scale d) (gone (dec_in j p)) ∙ scale_nul S d)
        where
          gone : Dec (Memᴰ j p) → reduce S C (generator S gens j) ≡ nul
          gone (yes a) = taken_in p j a
          gone (no a) = prune S gens targets k p i es m j l a c e

      go : (t : Bool) → canonical S gens targets k (p ++ i ∷ es) ≡ t → canonical S gens targets k (p ++ i ∷ es) ≡ false
      go true e = absurd (listed (canonical_listed S gens targets k (p ++ i ∷ es) e) (stop_yes C i ρ b))
      go false e = e

  module _ (k : ℕ) where
    -- what holds where the pruned comes to
    record At (p : List ℕ) (n i m : ℕ) : Type 0 where
      steps : Steps S gens (basis_of S targets) 0 i p
      range : i + n ≡ length gens
      size : dim S targets + (length p + m) ≡ k

    at_end : (p : List ℕ) (n i : ℕ) → At p n i zero → canonical S gens targets k p ≡ spans S gens k (spc p)
    unfolding canonical fits spans space dim extension
    at_end p n i a =
        let T : List Vec = basis_of S targets in
        let ρ : Reduced S T = basis_of_reduced S targets in
        let z : dim S targets + (length p + 0) ≡ k = a.size in
        let l : length (inserts S T (chosen S gens p)) ≡ k = steps_length S gens p T 0 i ρ a.steps ∙ (omega (arith, z)) in
        let g : greedy_ext ≡ p =
        steps_greedy S gens (length gens) p T (inserts S T (chosen S gens p)) 0 (length gens) (omega arith) ρ refl
        (steps_more S gens p T 0 i (length gens) (let r = a.range in omega arith) a.steps) in
        ap₂ (λ x y. (x && eqb (dim S (generators_in S gens (inserts S T (chosen S gens p)))) k) && y) (eq-eqb (length (inserts S T (chosen S gens p))) k l)
        (ap (λ x. same_numbers x p) g ∙ same_numbers_refl p) ∙ and_true (eqb (dim S (generators_in S gens (inserts S T (chosen S gens p)))) k)
      where
        greedy_ext : List ℕ
        greedy_ext = extension S gens targets (inserts S (basis_of S targets) (chosen S gens p))

        and_true : (b : Bool) → (true && b) && true ≡ b
        and_true true = refl
        and_true false = refl

    pub walk_is : dim S targets ≤ k → {A : Type 0} (emit : List ℕ → List Vec → A)
        → walk S gens stop (spans S gens k) emit (basis_of S targets) [] (length gens) 0 (k - dim S targets) ≡ map (λ es. emit es (spc es))
        (entries S gens targets k)
    walk_is h emit =
        ap (λ X. walk S gens stop (spans S gens k) emit X [] (length gens) 0 (k - dim S targets)) start
        ∙ pruned_pruned S gens stop (spans S gens k) emit targets [] (length gens) 0 (k - dim S targets)
        ∙ ap (map (λ es. emit es (spc es)))
        (sym (pruned_same st (canonical S gens targets k) (λ p. spans S gens k (spc p)) At skip take at_end [] (length gens) 0 (k - dim S targets)
        (record { steps = tt; range = omega arith; size = omega arith }))
        ∙ pruned_is st (canonical S gens targets k) (stop_sound k) [] (length gens) 0 (k - dim S targets) ∙ sym (entries_canonical S gens targets k))
      where
        start : basis_of S targets ≡ spc []
        start = unfold space inserts chosen in refl

        skip : (p : List ℕ) (n i m : ℕ) → At p (suc n) i (suc m) → At p n (suc i) (suc m)
        skip p n i m a = record {
          steps = steps_more S gens p (basis_of S targets) 0 i (suc i) (omega arith) a.steps;
          range =
              (let r = a.range in omega arith);
          size = a.size;
        }

        take : (p : List ℕ) (n i m : ℕ) → At p (suc n) i (suc m) → st p i ≡ false → At (p ++ i ∷ []) n (suc i) m
        take p n i m a e =
            record {
              steps = unfold space in steps_snoc S gens p (basis_of S targets) 0 i a.steps (omega arith) (stop_no (spc p) i
                  (space_reduced S gens targets p) e);
              range = (let r = a.range in omega arith);
              size = omega (arith, a.size, length-append p (i ∷ []));
            }

-- ---- what the walk emits comes from numbers further on
module _ (S : Space) (gens : List S.Vec) (stop : List S.Vec → ℕ → Bool) where
  open S use {Vec}

  -- no number is stopped at the space that those before it lead to
  abbrev pub Free : List Vec → List ℕ → Type 0
  Free C [] = Unit {0}
  Free C (e ∷ es) = (stop C e ≡ false) × Free (insert S C (generator S gens e)) es

module _ (S : Space) (gens : List S.Vec) (stop : List S.Vec → ℕ → Bool) (leaf : List S.Vec → Bool) {A : Type 0} (emit : List ℕ → List
    S.Vec → A) where
  open S use {Vec}

  -- m rising numbers from i on and below hi, none of them stopped, that lead from C to a space that passes
  pub record Further (C : List Vec) (i hi m : ℕ) : Type 0 where
    pub numbers : List ℕ
    pub rising : RisingList m i hi numbers
    pub free : Free S gens stop C numbers
    pub good : leaf (inserts S C (chosen S gens numbers)) ≡ true

  pub walk_some : (C : List Vec) (p : List ℕ) (n i m hi : ℕ) → i + n ≡ hi → (x : A) → Memᴰ x (walk S gens stop leaf emit C p n i m) → Further C i hi m
  unfolding walk inserts chosen
  walk_some C p n i zero hi q x = go (leaf C) refl
    where
      go : (t : Bool) → leaf C ≡ t → Memᴰ x (cond t (emit p C ∷ []) []) → Further C i hi zero
      go true e m = record { numbers = []; rising = (refl, tt); free = tt; good = e }
      go false e m = absurd (Memᴰ.not-nil m)
  walk_some C p zero i (suc m) hi q x = λ k. absurd (Memᴰ.not-nil k)
  walk_some C p (suc n) i (suc m) hi q x =
      go (stop C i) refl (λ b k. up b (walk_some (insert S C (generator S gens i)) (p ++ i ∷ []) n (suc i) m hi (omega arith) x k)) (λ k. on
      (walk_some C p n (suc i) (suc m) hi (omega arith) x k))
    where
      up : stop C i ≡ false → Further (insert S C (generator S gens i)) (suc i) hi m → Further C i hi (suc m)
      up b f = record {
        numbers = i ∷ f.numbers;
        rising = (ap suc f.rising.0, (omega arith, omega arith, f.rising.1));
        free =
            (b, f.free);
        good = f.good;
      }

      on : Further C (suc i) hi (suc m) → Further C i hi (suc m)
      on f = record {
        numbers = f.numbers;
        rising = (
          f.rising.0,
          rising_from i (suc i) hi f.numbers (omega arith)
              f.rising.1,
        );
        free = f.free;
        good = f.good;
      }

      here : List A
      here = walk S gens stop leaf emit (insert S C (generator S gens i)) (p ++ i ∷ []) n (suc i) m

      there : List A
      there = walk S gens stop leaf emit C p n (suc i) (suc m)

      cases : (Memᴰ x here → Further C i hi (suc m)) → (Memᴰ x there → Further C i hi (suc m)) → Memᴰ x here ⊎ Memᴰ x there
          → Further C i hi (suc m)
      cases f g (inl k) = f k
      cases f g (inr k) = g k

      go : (t : Bool) → stop C i ≡ t → (stop C i ≡ false → Memᴰ x here → Further C i hi (suc m)) → (Memᴰ x there → Further C i hi (suc m))
          → Memᴰ x (elim t [ true ↦ there | false ↦ here ++ there ]) → Further C i hi (suc m)
      go true b f g k = g k
      go false b f g k = cases (f b) g (Memᴰ.append_cases here k)

  pub walk_none : (C : List Vec) (p : List ℕ) (n i m hi : ℕ) → i + n ≡ hi → (Further C i hi m → ⊥) → walk S gens stop leaf emit C p n i m ≡ []
  walk_none C p n i m hi q h = go (walk S gens stop leaf emit C p n i m) refl
    where
      go : (l : List A) → walk S gens stop leaf emit C p n i m ≡ l → l ≡ []
      go [] e = refl
      go (x ∷ l) e = absurd (h (walk_some C p n i m hi q x (subst (λ (y : List A). Memᴰ x y) (sym e) (Memᴰ.head refl))))

-- such numbers are next ones, each in its turn
pub free_steps : (S : Space) (gens : List S.Vec) (stop : List S.Vec → ℕ → Bool)
    → ((C : List S.Vec) (i : ℕ) → Reduced S C → stop C i ≡ false → Next S gens C i)
    → (es : List ℕ) (C : List S.Vec) (lo hi : ℕ) → Reduced S C → Rising lo hi es → Free S gens stop C es → Steps S gens C lo hi es
free_steps S gens stop nx [] C lo hi ρ r f = tt
free_steps S gens stop nx (e ∷ es) C lo hi ρ r f = (
  r.0,
  r.1,
  nx C e ρ f.0,
  free_steps S gens stop nx es (insert S C (generator S gens e)) (suc e) hi (insert_reduced S C (generator S gens e) ρ)
      r.2 f.1,
)
