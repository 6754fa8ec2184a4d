-- The greedy choice by price is the cheapest formula of a space, and the dictionary_first among equals.
--   Matched _≼_ es fs          == the numbers of fs can be given to those of es, one to each, so that e ≼ f for what is given
--   chosen_same                numbers in any order have generators with one span
--   along_matched              the choice along a list in order is matched by every other that spans as much
--   matched_total, matched_even   a choice matched by price costs no more, and where it costs as much its numbers are no greater
--   cheapest_in_formula         the choice by price inside a space is a formula of it,
--   cheapest_in_first           which no other precedes:
--   cheapest_formula, cheapest_found   it is the cheapest of the formulae
-- Assumes nothing.
use Rattle.std.specs.Prelude.{◌≡◌, ◌⊎◌, ◌↔◌, Bool, false, ℕ, ◌+◌, ◌<◌, ◌≤◌, length, Some}
use Rattle.std.proofs.Math.Path.{refl, sym, subst}
use Rattle.std.proofs.Common.{ap, ◌∙◌, inl, inr}
use Rattle.std.proofs.Math.Bool.{true}
use mathlib.Core.List.Memᴰ
use mathlib.Core.List.{List, [], ◌∷◌, Memᴰ}
use mathlib.Core.List.Permᴰ
use mathlib.Core.List.{Permᴰ}
use native.Mathlib.Omega.{arith}
use Rattle.linear.specs.Space.{Space}
use Rattle.linear.specs.Span.{Span, Within, SameSpan}
use Rattle.linear.specs.Basis.{insert, inserts, basis_of, Reduced}
use Rattle.linear.specs.Order.{Before, Ordered}
use Rattle.linear.specs.Entry.{inside, generator, chosen, generators_in}
use Rattle.linear.specs.Greedy.{wanted}
use Rattle.linear.specs.Sorted.{sorted}
use Rattle.linear.specs.Prices.{total, cheapest, by_price, along, cheapest_in}
use Rattle.linear.specs.Formulae.{formulae, Formula}
use Rattle.linear.specs.laws.Span.{mem_cons, span_mem, span_bind, span_mono, span_head}
use Rattle.linear.proofs.laws.Insert.{insert_reduced, insert_span, basis_of_span}
use Rattle.linear.proofs.laws.Dimension.{Fresh, dim_fresh, dim_same}
use Rattle.linear.proofs.laws.Independent.{independent_fresh, independent_dim, dimension, reduced_independent}
use Rattle.linear.proofs.laws.Order.{before_asym, rising_mem, mem_index}
use Rattle.linear.proofs.laws.Permuted.{perm_mem}
use Rattle.linear.proofs.laws.Sorted.{sorted_mem, sorted_length, sorted_rising, sorted_own, Pointwise, sorted_pointwise, pointwise_before}
use Rattle.linear.proofs.laws.Select.{only_mem}
use Rattle.linear.proofs.laws.Entry.{inside_yes, yes_inside, chosen_each, mem_chosen}
use Rattle.linear.proofs.laws.Extension.{chosen_length}
use Rattle.linear.proofs.laws.Greedy.{wanted_passes, wanted_new, wanted_no, step_along, along_mem, along_fresh, along_covers}
use Rattle.linear.proofs.laws.Formulae.{formulae_are}
use Rattle.linear.proofs.laws.Exchange.{fresh_mem, fresh_once, exchange_one}
use Rattle.linear.proofs.laws.Prices.{cost, Ahead, NoLater, total_perm, total_sorted, Precedes, Cheapest, cheapest_only, by_price_mem, by_price_ordered}

-- ---- matched choices
abbrev pub Matched : (ℕ → ℕ → Type 0) → List ℕ → List ℕ → Type 0
Matched ◌≼◌ [] fs = fs ≡ []
Matched ◌≼◌ (e ∷ es) fs = (f : ℕ) × (rest : List ℕ) × Permᴰ fs (f ∷ rest) × (◌≼◌ e f) × Matched ◌≼◌ es rest

module _ (prices : List ℕ) where
  pub matched_total : (es fs : List ℕ) → Matched (NoLater prices) es fs → total prices es ≤ total prices fs
  unfolding total
  matched_total [] fs q = omega arith
  matched_total (e ∷ es) fs (f, rest, p, l, m) = unfold total in
      let t : total prices fs ≡ cost prices f + total prices rest = total_perm prices p in
      let a : total prices es ≤ total prices rest = matched_total es rest m in
      omega (arith, t, a, no_dearer l)
    where
      no_dearer : NoLater prices e f → cost prices e ≤ cost prices f
      no_dearer (inl h) = omega arith
      no_dearer (inr h) = let z = h.0 in omega arith

  -- where it costs as much, no number of it is greater than what is given to it
  pub matched_even : (es fs : List ℕ) → Matched (NoLater prices) es fs → total prices fs ≤ total prices es
      → (gs : List ℕ) × Permᴰ gs fs × Pointwise es gs
  unfolding total
  matched_even [] fs q h = ([], subst (Permᴰ []) (sym q) Permᴰ.nil, tt)
  matched_even (e ∷ es) fs (f, rest, p, l, m) h = unfold total in
      let t : total prices fs ≡ cost prices f + total prices rest = total_perm prices p in
      let a : total prices es ≤ total prices rest = matched_total es rest m in
      go t a l (matched_even es rest m)
    where
      go : total prices fs ≡ cost prices f + total prices rest → total prices es ≤ total prices rest → NoLater prices e f
          → (total prices rest ≤ total prices es → (gs : List ℕ) × Permᴰ gs rest × Pointwise es gs)
          → (gs : List ℕ) × Permᴰ gs fs × Pointwise (e ∷ es) gs
      go t a (inl c) ih = absurd (unfold total in omega (arith, t, a, c, h))
      go t a (inr c) ih =
          let r = ih (unfold total in let z = c.0 in omega (arith, t, z, h)) in
          (f ∷ r.0, Permᴰ.trans (Permᴰ.cons refl r.1) (Permᴰ.symm p), (c.1, r.2))

  -- what is ahead is no later
  ahead_no_later : (l : List ℕ) → Ordered (Ahead prices) l → Ordered (NoLater prices) l
  ahead_no_later [] o = tt
  ahead_no_later (x ∷ l) o = (λ y m. weak y (o.0 y m), ahead_no_later l o.1)
    where
      weak : (y : ℕ) → Ahead prices x y → NoLater prices x y
      weak y (inl h) = inl h
      weak y (inr h) = inr (h.0, (let a = h.1 in omega arith))

module _ (S : Space) (gens : List S.Vec) where
  open S use {Vec}

  abbrev gen : ℕ → Vec
  gen j = generator S gens j

  abbrev gens_at : List ℕ → List Vec
  gens_at es = chosen S gens es

  -- numbers in any order have generators with one span
  pub chosen_same : (es fs : List ℕ) → ((e : ℕ) → Memᴰ e es ↔ Memᴰ e fs) → SameSpan S (gens_at es) (gens_at fs)
  chosen_same es fs h = (half es fs (λ e m. (h e).0 m), half fs es (λ e m. (h e).1 m))
    where
      half : (es fs : List ℕ) → ((e : ℕ) → Memᴰ e es → Memᴰ e fs) → Within S (gens_at es) (gens_at fs)
      half es fs k v s = span_mono S (chosen_each S gens (λ x. Memᴰ x (gens_at fs)) es (λ e m. mem_chosen S gens fs e (k e m))) s

  module _ (ok : ℕ → Bool) where
    -- ---- along a list in order no other choice is ahead
    module _ (◌≼◌ : ℕ → ℕ → Type 0) (same : (i : ℕ) → ◌≼◌ i i) where
      pub along_matched : (js : List ℕ) (C : List Vec) (F : List ℕ) → Ordered ◌≼◌ js → Reduced S C → Fresh S C (gens_at F)
          → ((f : ℕ) → Memᴰ f F → Memᴰ f js × (ok f ≡ true))
          → ((i : ℕ) → Memᴰ i js → ok i ≡ true → Span S (inserts S C (gens_at F)) (gen i)) → Matched ◌≼◌ (along S gens ok C js) F
      unfolding along
      along_matched [] C [] o ρ φ h k = refl
      along_matched [] C (f ∷ F) o ρ φ h k = absurd (Memᴰ.not-nil (h f (Memᴰ.head refl)).0)
      along_matched (j ∷ js) C F o ρ φ h k = go (wanted S gens ok C j) refl (λ D G. along_matched js D G o.1)
        where
          -- j is not among numbers whose generators are new over a space that holds its own
          later : (B : List Vec) (G : List ℕ) → Fresh S B (gens_at G) → (ok j ≡ true → Span S B (gen j))
              → ((f : ℕ) → Memᴰ f G → Memᴰ f (j ∷ js) × (ok f ≡ true)) → (f : ℕ) → Memᴰ f G → Memᴰ f js × (ok f ≡ true)
          later B G ψ s g f m = at (Memᴰ.cases_cons (g f m).0)
            where
              at : (f ≡ j) ⊎ Memᴰ f js → Memᴰ f js × (ok f ≡ true)
              at (inl e) = absurd (fresh_mem S gens G B ψ j (Memᴰ.cast (sym e) m) (s (ap ok (sym e) ∙ (g f m).1)))
              at (inr n) = (n, (g f m).1)

          ahead : (x : ℕ) → Memᴰ x (j ∷ js) → ◌≼◌ j x
          ahead = mem_cons {P = ◌≼◌ j} (same j) o.0

          go : (t : Bool) → wanted S gens ok C j ≡ t
              → ((D : List Vec) (G : List ℕ) → Reduced S D → Fresh S D (gens_at G) → ((f : ℕ) → Memᴰ f G → Memᴰ f js × (ok f ≡ true))
              → ((i : ℕ) → Memᴰ i js → ok i ≡ true → Span S (inserts S D (gens_at G)) (gen i)) → Matched ◌≼◌ (along S gens ok D js) G)
              → Matched ◌≼◌ (step_along S gens ok C j js t) F
          go true q ih =
              let D = insert S C (gen j) in
              let E = exchange_one S gens F C (gen j) ρ (wanted_new S gens ok C ρ j q) φ (k j (Memᴰ.head refl) (wanted_passes S gens ok C j q)) in
              let back = Permᴰ.symm E.parts in (
                E.out,
                E.rest,
                E.parts,
                ahead E.out (h E.out (perm_mem back (Memᴰ.head refl))).0,
                ih D E.rest (insert_reduced S C (gen j) ρ) E.fresh
                    (later D E.rest E.fresh (λ p. (insert_span S C (gen j) (gen j)).1 (span_head S (gen j) C))
                    (λ f m. h f (perm_mem back (Memᴰ.tail m))))
                    (λ i m p. subst (λ B. Span S B (gen i)) E.spans (k i (Memᴰ.tail m) p)),
              )
          go false q ih = ih C F ρ φ (later C F φ (wanted_no S gens ok C j q) h) (λ i m p. k i (Memᴰ.tail m) p)

  -- ---- the cheapest formula of a space
  module _ (prices : List ℕ) (base : ℕ) (all : length prices ≡ length gens) (wide : length gens ≤ base) (W : List Vec) (ρ : Reduced S W)
      (spanned : Within S W (generators_in S gens W)) where
    abbrev is_in : ℕ → Bool
    is_in j = inside S W (gen j)

    abbrev js : List ℕ
    js = by_price base prices

    abbrev taken : List ℕ
    taken = along S gens is_in [] js

    listed : (j : ℕ) → Memᴰ j js ↔ (j < length gens)
    listed j = (λ m. subst (λ n. j < n) all ((by_price_mem base prices wide' j).0 m), λ l. (by_price_mem base prices wide' j).1 (subst (λ n. j < n) (sym all) l))
      where
        wide' : length prices ≤ base
        wide' = omega (arith, all, wide)

    -- the choice spans the space
    taken_spans : SameSpan S (gens_at taken) W
    taken_spans = (
      λ v s. span_bind S (chosen_each S gens (Span S W) taken (λ e m. inside_yes S W (gen e) (along_mem S gens is_in js [] e m).1)) s,
      λ v s. span_bind S each (spanned v s),
    )
      where
        each : (x : Vec) → Memᴰ x (generators_in S gens W) → Span S (gens_at taken) x
        each x m = unfold generators_in basis_of generator in
            let r = only_mem (inside S W) gens x m in
            let i = mem_index S.nul r.0 in
            subst (Span S (gens_at taken)) (sym i.2)
            ((basis_of_span S (gens_at taken) (gen i.0)).0
            (along_covers S gens is_in js [] i.0 ((listed i.0).1 i.1) (ap (inside S W) (sym i.2) ∙ r.1)))

    -- ascending it is a formula of the space
    pub cheapest_in_formula : Formula S gens W (cheapest_in S gens js W)
    unfolding cheapest_in
    cheapest_in_formula =
        record {
          number = sorted_length taken ∙ sym (chosen_length S gens [] taken) ∙ long;
          rising = sorted_rising (length gens) taken (fresh_once S gens taken [] fresh) (λ j m. (listed j).0 (along_mem S gens is_in js [] j m).0);
          independent = independent_dim S (gens_at (sorted taken)) (dim_same S (gens_at (sorted taken)) (gens_at taken) same ∙ dim_fresh S (gens_at taken) fresh
              ∙ chosen_length S gens [] taken ∙ sym (sorted_length taken) ∙ sym (chosen_length S gens [] (sorted taken)));
          spanning = (λ v s. taken_spans.0 v (same.0 v s), λ v s. same.1 v (taken_spans.1 v s));
        }
      where
        fresh : Fresh S [] (gens_at taken)
        fresh = along_fresh S gens is_in js [] tt

        same : SameSpan S (gens_at (sorted taken)) (gens_at taken)
        same = chosen_same (sorted taken) taken (sorted_mem taken)

        long : length (gens_at taken) ≡ length W
        long =
            dimension S (gens_at taken) W ((independent_fresh S (gens_at taken)).1 fresh) taken_spans
            ∙ sym (dimension S W W (reduced_independent S W ρ) (λ v s. s, λ v s. s))

    -- which no formula of the space precedes
    pub cheapest_in_first : (fs : List ℕ) → Formula S gens W fs → ¬ Precedes prices fs (cheapest_in S gens js W)
    unfolding cheapest_in
    cheapest_in_first fs F p = go p
      where
        order : Ordered (NoLater prices) js
        order = ahead_no_later prices js (by_price_ordered base prices (omega (arith, all, wide)))

        match : Matched (NoLater prices) taken fs
        match = along_matched is_in (NoLater prices) (λ i. inr (refl, omega arith)) js [] fs order tt ((independent_fresh S (gens_at fs)).0 F.independent)
            (λ f m. (
              (listed f).1 (rising_mem 0 (length gens) fs F.rising f m).1,
              yes_inside S W ρ (gen f) (F.spanning.0 (gen f) (span_mem S (mem_chosen S gens fs f m))),
            ))
            (λ i m q. unfold basis_of in (basis_of_span S (gens_at fs) (gen i)).1 (F.spanning.1 (gen i) (inside_yes S W (gen i) q)))

        cheap : total prices taken ≤ total prices fs
        cheap = matched_total prices taken fs match

        even : total prices (sorted taken) ≡ total prices taken
        even = total_sorted prices taken

        stand : (gs : List ℕ) → Permᴰ gs fs → Pointwise taken gs → (sorted taken ≡ fs) ⊎ Before (sorted taken) fs
        stand gs q h =
            subst (λ l. (sorted taken ≡ l) ⊎ Before (sorted taken) l) (sorted_own (length gens) gs fs F.rising q)
            (pointwise_before (sorted taken) (sorted gs) (sorted_pointwise taken gs h))

        clash : Before fs (sorted taken) → (sorted taken ≡ fs) ⊎ Before (sorted taken) fs → ⊥
        clash b (inl e) = let c = subst (Before fs) e b in before_asym fs fs c c
        clash b (inr c) = before_asym fs (sorted taken) b c

        go : (total prices fs < total prices (sorted taken)) ⊎ ((total prices fs ≡ total prices (sorted taken)) × Before fs (sorted taken)) → ⊥
        go (inl h) = omega (arith, h, cheap, even)
        go (inr h) =
            let r = matched_even prices taken fs match (let z = h.0 in omega (arith, z, even)) in
            clash h.1 (stand r.0 r.1 r.2)

    -- so it is the cheapest of them
    pub cheapest_formula : Cheapest prices (formulae S gens W) (cheapest_in S gens js W)
    cheapest_formula =
        record {
          member = (formulae_are S gens W ρ (cheapest_in S gens js W)).1 cheapest_in_formula;
          first = λ fs m. cheapest_in_first fs ((formulae_are S gens W ρ fs).0 m);
        }

    pub cheapest_found : cheapest prices (formulae S gens W) ≡ Some (cheapest_in S gens js W)
    cheapest_found = cheapest_only prices (formulae S gens W) (cheapest_in S gens js W) cheapest_formula
