-- The theorems, for any field and any width, to be read from top to bottom. The definitions are in Space, Span, Basis, Order, Entry and Rank; the proofs in laws/.
--   membership, insertion-*, basis, one_basis, dimension     bases: reduction decides membership, insertion is right, a space has one reduced basis and one dimension
--   rising_all, rising_in_order, rising_number               rising lists of numbers: all of them, in dictionary order, not too many
--   entry_solves, solution_listed, spaces_once, space_once, entry_space, entries_in_order, extension_shape, extension_first, extension_greedy, entries_few
--                                                            the catalogue: none missing, none twice
--   no_fewer, computed_exactly, least_is_rank                what the catalogue says of the fewest products
--   one_combination, part_shape, part_spanning, part_dictionary_first, part_any_order
--                                                            the one sum over independent vectors; the part of a selection that may be used for it
--   formulae_exactly                                         the formulae of a space
--   cheapest_of_a_space, cheapest_of_entries, cheapest_exactly, least_choices_listed
--                                                            prices: the cheapest formula of a space and of all entries
--   rank_formula, rank_exactly, rank_above, rank_beyond, rank_at_equal_prices
--                                                            what Rank says: never one product too many, none cheaper, and when it says no number
-- Assumes nothing.
use Rattle.std.specs.Prelude.{◌≡◌, ◌⊎◌, ◌↔◌, false, ℕ, suc, ◌+◌, ◌-◌, ◌*◌, ◌^◌, ◌<◌, ◌≤◌, length, get_or, Some}
use mathlib.Core.List.{List, [], ◌∷◌, map, Memᴰ}
use Rattle.std.proofs.Common.{arith}
use Rattle.linear.specs.Space.{Space}
use Rattle.linear.specs.Span.{combination, Span, Within, SameSpan, Independent}
use Rattle.linear.specs.Basis.{reduce, insert, basis_of, Reduced, dim}
use Rattle.linear.specs.Order.{Before, Rising, rising_lists, Ordered, factorial}
use Rattle.linear.specs.Select.{Once}
use Rattle.linear.specs.Coefficients.{coefficients}
use Rattle.linear.specs.Part.{part}
use Rattle.linear.specs.Entry.{chosen, generators_in, Solution, SolutionSpace, space, entries}
use Rattle.linear.specs.Rank.{Chosen, Computes, Rank}
use Rattle.linear.specs.Formulae.{first, formula, above, beyond, formulae, all_formulae, fewest, Formula, RankFormula}
use Rattle.linear.specs.Prices.{precedes, cheapest, by_price, cheapest_in}
use Rattle.linear.proofs.laws.Reduce.{member}
use Rattle.linear.proofs.laws.Insert.{insert_old, insert_reduced, insert_span, insert_length_new, basis_of_reduced, basis_of_span}
use Rattle.linear.proofs.laws.Dimension as dimensions
use Rattle.linear.proofs.laws.Independent as independence
use Rattle.linear.proofs.laws.Order.{rising_sound, rising_complete, rising_ordered}
use Rattle.linear.proofs.laws.Count.{rising_count, entries_count}
use Rattle.linear.proofs.laws.Entry.{entries_sound, entries_shape, entries_once, entries_ordered}
use Rattle.linear.specs.Extension.{extension}
use Rattle.linear.proofs.laws.Extension.{entries_complete, entries_first, entries_greedy}
use Rattle.linear.proofs.laws.Coefficients.{coefficients_sum, coefficients_only}
use Rattle.linear.proofs.laws.Part.{part_rising, part_selected, part_independent, part_spans, part_first, part_members}
use Rattle.linear.proofs.laws.Spaces.{space_of_solution, space_listed}
use Rattle.linear.proofs.laws.Rank.{solution_from, chosen_from, no_entry, rank_is}
use Rattle.linear.proofs.laws.Formulae.{formulae_are}
use Rattle.linear.proofs.laws.Prices.{precedes_no, no_precedes, cheapest_is, cheapest_only}
use Rattle.linear.proofs.laws.Cheapest.{cheapest_in_formula, cheapest_in_first, cheapest_found}
use Rattle.linear.proofs.laws.AllFormulae.{cheapest_entries, least_listed}
use Rattle.linear.proofs.laws.EqualPrices.{equal_prices}
use Rattle.linear.proofs.laws.Fewest as rank

-- ---- bases
module _ (S : Space) where
  open S use {Vec, nul}

  -- A vector is in the span of a reduced basis exactly if reduction leaves nothing of it.
  pub membership : (B : List Vec) → Reduced S B → (v : Vec) → Span S B v ↔ (reduce S B v ≡ nul)
  membership = member S

  -- Insertion keeps a basis reduced, and spans exactly what the rows and the vector span:
  pub insertion_reduced : (B : List Vec) (v : Vec) → Reduced S B → Reduced S (insert S B v)
  insertion_reduced = insert_reduced S

  pub insertion_span : (B : List Vec) (v : Vec) → SameSpan S (insert S B v) (v ∷ B)
  insertion_span B v = (λ u s. (insert_span S B v u).0 s, λ u s. (insert_span S B v u).1 s)

  -- one dimension more where the vector is new, and else the basis stays as it is.
  pub insertion_new : (B : List Vec) (v : Vec) → Reduced S B → ¬ Span S B v → length (insert S B v) ≡ suc (length B)
  insertion_new B v ρ n = insert_length_new S B v (λ e. n ((member S B ρ v).1 e))

  pub insertion_old : (B : List Vec) (v : Vec) → Reduced S B → Span S B v → insert S B v ≡ B
  insertion_old B v ρ s = insert_old S B v ((member S B ρ v).0 s)

  -- The basis of a list is reduced and spans what the list spans;
  pub basis : (xs : List Vec) → Reduced S (basis_of S xs) × SameSpan S (basis_of S xs) xs
  basis xs = (basis_of_reduced S xs, (λ u s. (basis_of_span S xs u).0 s, λ u s. (basis_of_span S xs u).1 s))

  -- and a space has one reduced basis.
  pub one_basis : (B C : List Vec) → Reduced S B → Reduced S C → SameSpan S B C → B ≡ C
  one_basis B C ρ σ e = dimensions.unique S B C ρ σ e.0 e.1

  -- Dimension is well defined: independent vectors with the same span as ys number dim ys; the rows of a reduced basis are such.
  pub dimension : (xs ys : List Vec) → Independent S xs → SameSpan S xs ys → length xs ≡ dim S ys
  dimension = independence.dimension S

  pub rows_independent : (B : List Vec) → Reduced S B → Independent S B
  rows_independent = independence.reduced_independent S

-- ---- rising lists
-- `rising_lists n 0 m` has exactly the rising lists of m numbers below n, in dictionary order, and m! times their number is at most n ^ m.
pub rising_all : (n m : ℕ) (es : List ℕ) → Memᴰ es (rising_lists n 0 m) ↔ ((length es ≡ m) × Rising 0 n es)
rising_all n m es = (rising_sound n 0 m n (omega arith) es, λ r. rising_complete n 0 m n (omega arith) es r.0 r.1)

pub rising_in_order : (n m : ℕ) → Ordered Before (rising_lists n 0 m)
rising_in_order n m = rising_ordered n 0 m

pub rising_number : (n m : ℕ) → factorial m * length (rising_lists n 0 m) ≤ n ^ m
rising_number n m = rising_count n 0 m

-- ---- sums of selected generators
module _ (S : Space) (gens : List S.Vec) where
  open S use {fld, Vec}

  -- A combination of independent vectors has one list of coefficients.
  pub one_combination : (xs : List Vec) (v : Vec) → Independent S xs → Span S xs v
      → (combination S (coefficients S xs v) xs ≡ v)
      × ((cs : List fld.K) → length cs ≡ length xs → combination S cs xs ≡ v → cs ≡ coefficients S xs v)
  one_combination xs v i s = (coefficients_sum S xs v s, λ cs l e. coefficients_only S xs v i cs l e)

  -- The part of a selection is of its numbers, ascending, and independent;
  pub part_shape : (sel : List ℕ)
      → Rising 0 (length gens) (part S gens sel) × ((e : ℕ) → Memᴰ e (part S gens sel) → Memᴰ e sel) × Independent S (chosen S gens (part S gens sel))
  part_shape sel = (part_rising S gens sel, part_selected S gens sel, part_independent S gens sel)

  -- it spans what the selection spans,
  pub part_spanning : (sel : List ℕ) → ((e : ℕ) → Memᴰ e sel → e < length gens) → SameSpan S (chosen S gens (part S gens sel)) (chosen S gens sel)
  part_spanning = part_spans S gens

  -- no other such part stands before it in a dictionary,
  pub part_dictionary_first : (sel fs : List ℕ) → ((e : ℕ) → Memᴰ e sel → e < length gens) → Rising 0 (length gens) fs
      → ((e : ℕ) → Memᴰ e fs → Memᴰ e sel) → Independent S (chosen S gens fs) → SameSpan S (chosen S gens fs) (chosen S gens sel)
      → (part S gens sel ≡ fs) ⊎ Before (part S gens sel) fs
  part_dictionary_first = part_first S gens

  -- and the order of the selected numbers plays no part.
  pub part_any_order : (sel sel' : List ℕ) → ((e : ℕ) → Memᴰ e sel ↔ Memᴰ e sel') → part S gens sel ≡ part S gens sel'
  part_any_order = part_members S gens

module _ (S : Space) (gens targets : List S.Vec) where
  open S use {Vec}

  -- ---- the catalogue
  -- The space of an entry is a solution space;
  pub entry_solves : (k : ℕ) (es : List ℕ) → Memᴰ es (entries S gens targets k) → Solution S gens targets k (space S gens targets es)
  entry_solves = entries_sound S gens targets

  -- each solution space is that of an entry: none is missing;
  pub solution_listed : (k : ℕ) (W : List Vec) → Solution S gens targets k W → (es : List ℕ) × Memᴰ es (entries S gens targets k) × (space S gens targets es ≡ W)
  solution_listed = entries_complete S gens targets

  -- and of one only: none comes twice.
  pub spaces_once : (k : ℕ) → Once (space S gens targets) (entries S gens targets k)
  spaces_once = entries_once S gens targets

  -- The same of a space that is given by any list of vectors: exactly one entry spans it,
  pub space_once : (k : ℕ) (X : List Vec) → SolutionSpace S gens targets k X
      → (es : List ℕ) × Memᴰ es (entries S gens targets k) × SameSpan S (space S gens targets es) X
      × ((fs : List ℕ) → Memᴰ fs (entries S gens targets k) → SameSpan S (space S gens targets fs) X → fs ≡ es)
  space_once k = space_listed S gens targets k

  -- and the space of every entry is one.
  pub entry_space : (k : ℕ) (es : List ℕ) → Memᴰ es (entries S gens targets k) → SolutionSpace S gens targets k (space S gens targets es)
  entry_space k es m = space_of_solution S gens targets k (space S gens targets es) (entries_sound S gens targets k es m)

  -- Entries stand in dictionary order of their extensions,
  pub entries_in_order : (k : ℕ) → Ordered Before (entries S gens targets k)
  entries_in_order = entries_ordered S gens targets

  -- an extension is k − ℓ generator numbers, ascending,
  pub extension_shape : (k : ℕ) (es : List ℕ) → Memᴰ es (entries S gens targets k) → (length es ≡ k - dim S targets) × Rising 0 (length gens) es
  extension_shape = entries_shape S gens targets

  -- and the first of all such that with the targets span its space: it is the greedy one.
  pub extension_first : (k : ℕ) (es fs : List ℕ) → Memᴰ es (entries S gens targets k) → length fs ≡ k - dim S targets → Rising 0 (length gens) fs
      → space S gens targets fs ≡ space S gens targets es → (es ≡ fs) ⊎ Before es fs
  extension_first = entries_first S gens targets

  pub extension_greedy : (k : ℕ) (es : List ℕ) → Memᴰ es (entries S gens targets k) → extension S gens targets (space S gens targets es) ≡ es
  extension_greedy = entries_greedy S gens targets

  -- With at most 4,095 generators and k at most ℓ + 6 the number of entries fits 64 bits.
  pub entries_few : (k : ℕ) → length gens ≤ 4095 → k ≤ dim S targets + 6 → length (entries S gens targets k) < 2 ^ 64
  entries_few = entries_count S gens targets

  -- ---- the fewest products
  -- Where the generators span at least k dimensions and there is no entry for k, no k or fewer generators compute the targets.
  pub no_fewer : (k : ℕ) → k ≤ dim S gens → entries S gens targets k ≡ [] → (xs : List Vec) → Chosen S gens xs → length xs ≤ k → Computes S targets xs → ⊥
  no_fewer = no_entry S gens targets

  -- So there is an entry for k exactly if some k or fewer generators compute the targets.
  pub computed_exactly : (k : ℕ) → k ≤ dim S gens
      → ((xs : List Vec) × Chosen S gens xs × (length xs ≤ k) × Computes S targets xs) ↔ ((es : List ℕ) × Memᴰ es (entries S gens targets k))
  computed_exactly k a = (
    λ (xs, h, l, t). let E = solution_from S gens targets k a xs h l t in let r = entries_complete S gens targets k E.0 E.1 in (r.0, r.1),
    λ (es, m). let r = chosen_from S gens targets k (space S gens targets es) (entries_sound S gens targets k es m) in (r.0, r.2, (let e = r.1 in omega arith), r.3),
  )

  -- The least k, from ℓ on, that has an entry is the rank: that many generators compute the targets, and no choice of fewer does.
  pub least_is_rank : (r : ℕ) (es : List ℕ) → Memᴰ es (entries S gens targets r) → ((k : ℕ) → dim S targets ≤ k → k < r → entries S gens targets k ≡ []) → Rank S gens targets r
  least_is_rank = rank_is S gens targets

  -- ---- formulae
  -- The formulae of a space are exactly the sets (rising lists of numbers) of as many independent generators as it has dimensions that span it.
  pub formulae_exactly : (W : List Vec) → Reduced S W → (es : List ℕ) → Memᴰ es (formulae S gens W) ↔ Formula S gens W es
  formulae_exactly = formulae_are S gens

  -- ---- prices
  -- Of the generators inside a space, by price and among equals by number, take each that is not yet spanned: ascending that is a formula of the space, and no
  -- formula of the space costs less, or as much and stands before it in a dictionary. `prices` has one price a generator, and `base` is at least their number.
  module _ (prices : List ℕ) (base : ℕ) (all : length prices ≡ length gens) (wide : length gens ≤ base) where
    pub cheapest_of_a_space : (W : List Vec) → Reduced S W → Within S W (generators_in S gens W)
        → Formula S gens W (cheapest_in S gens (by_price base prices) W)
        × ((fs : List ℕ) → Formula S gens W fs → precedes prices fs (cheapest_in S gens (by_price base prices) W) ≡ false)
        × (cheapest prices (formulae S gens W) ≡ Some (cheapest_in S gens (by_price base prices) W))
    cheapest_of_a_space W ρ h = (
      cheapest_in_formula S gens prices base all wide W ρ h,
      λ fs F. precedes_no prices fs (cheapest_in S gens (by_price base prices) W) (cheapest_in_first S gens prices base all wide W ρ h fs F),
      cheapest_found S gens prices base all wide W ρ h,
    )

    -- So the cheapest of the formulae of all entries for k is the cheapest of one of each.
    pub cheapest_of_entries : (k : ℕ) → cheapest prices (all_formulae S gens targets k)
        ≡ cheapest prices (map (λ es. cheapest_in S gens (by_price base prices) (space S gens targets es)) (entries S gens targets k))
    cheapest_of_entries k = cheapest_entries S gens targets prices base k all wide

  -- The cheapest of some choices is one of them that no other precedes, and there is one wherever there is a choice.
  pub cheapest_exactly : (prices : List ℕ) (l : List (List ℕ)) (es : List ℕ)
      → (cheapest prices l ≡ Some es) ↔ (Memᴰ es l × ((fs : List ℕ) → Memᴰ fs l → precedes prices fs es ≡ false))
  cheapest_exactly prices l es = (
    λ e. let c = cheapest_is prices l es e in (c.member, λ fs m. precedes_no prices fs es (c.first fs m)),
    λ (m, h). cheapest_only prices l es (record { member = m; first = λ fs n. no_precedes prices fs es (h fs n) }),
  )

  -- The formulae of the entries for the rank r are exactly the rising choices of r generators that compute the targets: r being least, any r that compute
  -- them span an entry.
  pub least_choices_listed : (r : ℕ) → Rank S gens targets r → (es : List ℕ)
      → Memᴰ es (all_formulae S gens targets r) ↔ (Rising 0 (length gens) es × (length es ≡ r) × Computes S targets (chosen S gens es))
  least_choices_listed = least_listed S gens targets

  -- ---- Rank
  module _ (prices : List ℕ) where
    -- Where Rank says a formula, its products are independent generators that compute the targets, it is a formula of an entry for their number r, and r is
    -- the rank: every choice of generators that computes the targets has at least r. Those with r cost at least as much, and those that cost as much
    -- don't stand before it in a dictionary.
    pub rank_formula : (fs : List ℕ) → fewest S gens targets prices ≡ formula fs → RankFormula S gens targets prices fs
    rank_formula = rank.fewest_formula S gens targets prices

    -- It says one exactly if some ℓ + 6 or fewer generators compute the targets,
    pub rank_exactly : ((fs : List ℕ) × (fewest S gens targets prices ≡ formula fs))
        ↔ ((xs : List Vec) × Chosen S gens xs × (length xs ≤ dim S targets + 6) × Computes S targets xs)
    rank_exactly = rank.fewest_exactly S gens targets prices

    -- above exactly if the generators compute the targets and no k from ℓ to ℓ + 6 has an entry,
    pub rank_above : (fewest S gens targets prices ≡ above)
        ↔ (Computes S targets gens × ((k : ℕ) → dim S targets ≤ k → k ≤ dim S targets + 6 → entries S gens targets k ≡ []))
    rank_above = rank.fewest_above S gens targets prices

    -- and beyond exactly if the generators don't compute the targets.
    pub rank_beyond : (fewest S gens targets prices ≡ beyond) ↔ (Computes S targets gens → ⊥)
    rank_beyond = rank.fewest_beyond S gens targets prices

    -- Where all generators cost the same, what it says is the first formula of the first entry for r.
    pub rank_at_equal_prices : ((i j : ℕ) → i < length gens → j < length gens → get_or prices i 0 ≡ get_or prices j 0)
        → (fs : List ℕ) → fewest S gens targets prices ≡ formula fs
        → (es : List ℕ) × (first (entries S gens targets (length fs)) ≡ Some es) × (first (formulae S gens (space S gens targets es)) ≡ Some fs)
    rank_at_equal_prices = equal_prices S gens targets prices
