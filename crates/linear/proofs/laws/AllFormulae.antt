-- The formulae of all entries for k.
--   all_formulae_mem, mem_all_formulae    each is a formula of an entry, and each of these is there
--   all_formulae_none                    every entry has a formula
--   least_independent, least_dimension, least_solution   as many generators as the rank that compute the targets are independent, and span a solution space
--   sorted_listed                       ascending they are among the formulae of the entries:
--   least_listed                        exactly the rising choices of as many generators as the rank that compute the targets are
--   cheapest_entries                    the cheapest of the formulae is the cheapest of the choices by price in each entry
-- Assumes nothing.
use Rattle.std.specs.Prelude.{◌≡◌, refl, ◌↔◌, ℕ, ◌<◌, ◌≤◌, length}
use Rattle.std.proofs.Math.Path.{sym, ap, subst}
use Rattle.std.proofs.Common.{◌∙◌, arith}
use mathlib.Core.List.Permᴰ
use mathlib.Core.List.{List, [], ◌∷◌, map, Memᴰ}
use Rattle.linear.specs.Space.{Space}
use Rattle.linear.specs.Span.{SameSpan, Independent}
use Rattle.linear.specs.Basis.{basis_of, dim}
use Rattle.linear.specs.Order.{Rising}
use Rattle.linear.specs.Entry.{generator, chosen, generators_in, Solution, space, entries}
use Rattle.linear.specs.Extension.{extension}
use Rattle.linear.specs.Part.{part}
use Rattle.linear.specs.Share.{gather}
use Rattle.linear.specs.Sorted.{sorted}
use Rattle.linear.specs.Prices.{cheapest, by_price, cheapest_in}
use Rattle.linear.specs.Rank.{Computes, Rank}
use Rattle.linear.specs.Formulae.{formulae, all_formulae, Formula}
use Rattle.linear.specs.laws.Span.{span_mem, span_mono}
use Rattle.linear.proofs.laws.Insert.{basis_of_reduced, basis_of_span}
use Rattle.linear.proofs.laws.Dimension.{dim_length, dim_same}
use Rattle.linear.proofs.laws.Independent.{independent_fresh, independent_dim, dim_independent}
use Rattle.linear.proofs.laws.Order.{rising_mem, mem_get_d}
use Rattle.linear.proofs.laws.Sorted.{sorted_mem, sorted_length, sorted_rising, sorted_own}
use Rattle.linear.proofs.laws.Entry.{chosen_each, mem_chosen, entries_sound}
use Rattle.linear.proofs.laws.Extension.{chosen_length, entries_complete}
use Rattle.linear.proofs.laws.Part.{part_rising, part_spans, part_size}
use Rattle.linear.proofs.laws.Share.{gather_mem, gather_from}
use Rattle.linear.proofs.laws.Exchange.{fresh_once}
use Rattle.linear.proofs.laws.Prices.{cheapest_parts}
use Rattle.linear.proofs.laws.Cheapest.{chosen_same, cheapest_formula}
use Rattle.linear.proofs.laws.Formulae.{first_some, formulae_are, first_formula_law}
use Rattle.linear.proofs.laws.Rank.{chosen_gens, generators_in_mem}

module _ (S : Space) (gens targets : List S.Vec) where
  open S use {Vec}

  -- ---- the formulae of all entries
  pub all_formulae_mem : (k : ℕ) (fs : List ℕ) → Memᴰ fs (all_formulae S gens targets k)
      → (es : List ℕ) × Memᴰ es (entries S gens targets k) × Memᴰ fs (formulae S gens (space S gens targets es))
  unfolding all_formulae
  all_formulae_mem k fs m = gather_from (λ es. formulae S gens (space S gens targets es)) fs (entries S gens targets k) m

  pub mem_all_formulae : (k : ℕ) (es fs : List ℕ) → Memᴰ es (entries S gens targets k) → Memᴰ fs (formulae S gens (space S gens targets es))
      → Memᴰ fs (all_formulae S gens targets k)
  unfolding all_formulae
  mem_all_formulae k es fs m n = gather_mem (λ es. formulae S gens (space S gens targets es)) fs (entries S gens targets k) es m n

  -- every entry has a formula
  pub all_formulae_none : (k : ℕ) → (all_formulae S gens targets k ≡ []) ↔ (entries S gens targets k ≡ [])
  all_formulae_none k = (
    λ e. from (entries S gens targets k) refl e,
    λ e. unfold all_formulae gather in ap (gather (λ es. formulae S gens (space S gens targets es))) e,
  )
    where
      from : (l : List (List ℕ)) → entries S gens targets k ≡ l → all_formulae S gens targets k ≡ [] → entries S gens targets k ≡ []
      from [] q e = q
      from (es ∷ l) q e =
          let m : Memᴰ es (entries S gens targets k) = subst (Memᴰ es) (sym q) (mathlib.Core.List.Memᴰ.head refl) in
          let W = space S gens targets es in
          let r = first_some (formulae S gens W) (extension S gens [] W) (first_formula_law S gens targets k W (entries_sound S gens targets k es m)) in
          let n : Memᴰ (extension S gens [] W) (formulae S gens W) = subst (Memᴰ (extension S gens [] W)) (sym r.1) (mathlib.Core.List.Memᴰ.head refl) in
          absurd (mathlib.Core.List.Memᴰ.not-nil (subst (Memᴰ (extension S gens [] W)) e (mem_all_formulae k es (extension S gens [] W) m n)))

  -- ---- as many generators as the rank
  module _ (r : ℕ) (R : Rank S gens targets r) (es : List ℕ) (numbers : (e : ℕ) → Memᴰ e es → e < length gens) (size : length es ≡ r)
      (computes : Computes S targets (chosen S gens es)) where
    -- they are independent: else an independent part of them, with fewer, computes the targets
    pub least_independent : Independent S (chosen S gens es)
    least_independent =
        let p = part S gens es in
        let s = part_spans S gens es numbers in
        let l : r ≤ length (chosen S gens p) =
        R.least (chosen S gens p) (chosen_gens S gens targets 0 p (part_rising S gens es)) (λ t m. s.1 t (computes t m)) in
        independent_dim S (chosen S gens es)
        (omega (arith, l, size, part_size S gens es numbers, dim_length S (chosen S gens es), chosen_length S gens [] es, chosen_length S gens [] p))

    pub least_dimension : dim S (chosen S gens es) ≡ r
    least_dimension = dim_independent S (chosen S gens es) least_independent ∙ chosen_length S gens [] es ∙ size

    -- and they span a solution space
    pub least_solution : Solution S gens targets r (basis_of S (chosen S gens es))
    least_solution =
        record {
          reduced = basis_of_reduced S xs;
          size = unfold dim in least_dimension;
          holds = λ t m. (basis_of_span S xs t).1 (computes t m);
          spanned = λ v s. span_mono S
              (chosen_each S gens (λ x. Memᴰ x (generators_in S gens (basis_of S xs))) es
              (λ e m. generators_in_mem S gens targets (basis_of S xs) (basis_of_reduced S xs) (generator S gens e)
              (unfold generator in mem_get_d gens e S.nul (numbers e m))
              ((basis_of_span S xs (generator S gens e)).1 (span_mem S (mem_chosen S gens es e m)))))
              ((basis_of_span S xs v).0 s);
        }
      where
        xs : List Vec
        xs = chosen S gens es

    -- ascending they are a formula of it, and so of an entry
    pub sorted_listed : Memᴰ (sorted es) (all_formulae S gens targets r)
    sorted_listed =
        let c = entries_complete S gens targets r (basis_of S (chosen S gens es)) least_solution in
        mem_all_formulae r c.0 (sorted es) c.1
        (subst (λ W. Memᴰ (sorted es) (formulae S gens W)) (sym c.2)
        ((formulae_are S gens (basis_of S (chosen S gens es)) (basis_of_reduced S (chosen S gens es)) (sorted es)).1 F))
      where
        same : SameSpan S (chosen S gens (sorted es)) (chosen S gens es)
        same = chosen_same S gens (sorted es) es (sorted_mem es)

        F : Formula S gens (basis_of S (chosen S gens es)) (sorted es)
        F =
            record {
              number = (unfold dim in sorted_length es ∙ size ∙ sym least_dimension);
              rising = sorted_rising (length gens) es
                  (fresh_once S gens es [] ((independent_fresh S (chosen S gens es)).0 least_independent)) numbers;
              independent = independent_dim S (chosen S gens (sorted es))
                  (dim_same S (chosen S gens (sorted es)) (chosen S gens es) same ∙ least_dimension ∙ sym size ∙ sym (sorted_length es)
                  ∙ sym (chosen_length S gens [] (sorted es)));
              spanning = (
                λ v s. (basis_of_span S (chosen S gens es) v).1 (same.0 v s),
                λ v s. same.1 v ((basis_of_span S (chosen S gens es) v).0 s),
              );
            }

  -- exactly the rising choices of as many generators as the rank that compute the targets are among the formulae of the entries
  pub least_listed : (r : ℕ) → Rank S gens targets r → (es : List ℕ)
      → Memᴰ es (all_formulae S gens targets r) ↔ (Rising 0 (length gens) es × (length es ≡ r) × Computes S targets (chosen S gens es))
  least_listed r R es = (
    λ m. let f = all_formulae_mem r es m in
        let E = entries_sound S gens targets r f.0 f.1 in
        let F = (formulae_are S gens (space S gens targets f.0) E.reduced es).0 f.2 in
        (F.rising, F.number ∙ E.size, λ t n. F.spanning.1 t (E.holds t n)),
    λ (h, l, c). subst (λ x. Memᴰ x (all_formulae S gens targets r)) (sorted_own (length gens) es es h (Permᴰ.refl es))
        (sorted_listed r R es (λ e m. (rising_mem 0 (length gens) es h e m).1) l c),
  )

  -- ---- the cheapest of them, by the choice along the generators by price in each entry
  pub cheapest_entries : (prices : List ℕ) (base k : ℕ) → length prices ≡ length gens → length gens ≤ base
      → cheapest prices (all_formulae S gens targets k)
      ≡ cheapest prices (map (λ es. cheapest_in S gens (by_price base prices) (space S gens targets es)) (entries S gens targets k))
  unfolding all_formulae
  cheapest_entries prices base k all wide =
      cheapest_parts prices (λ es. formulae S gens (space S gens targets es)) (λ es. cheapest_in S gens (by_price base prices) (space S gens targets es))
      (entries S gens targets k)
      (λ es m. let E = entries_sound S gens targets k es m in cheapest_formula S gens prices base all wide (space S gens targets es) E.reduced E.spanned)
