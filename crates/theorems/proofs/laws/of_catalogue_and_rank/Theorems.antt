-- What Catalogue and Rank say, in the words of document 01's demand: none missing, none twice, none fewer. To be read from top to bottom.
--   CatalogueMeans, catalogue_means, catalogue_of_means   found counts every space of k dimensions that contains the targets and is spanned by generators, each once
--   catalogue_pinned                  no other reply means that
--   look_up_means                     an entry asked for by its number is that entry's record
--   RankMeans, rank_means, rank_of_means   r is the least number of generators that compute the targets, the buffer holds a formula with r products, and
-- none is cheaper
--   rank_pinned                       no other reply means that
-- The definitions: catalogue (Catalogue), rank (Rank), posed (problems), entries and Solution (linear, Entry), Rank and Computes (linear, Rank). Assumes nothing.
use Rattle.std.proofs.Math.Path.{◌≡◌, refl, ap}
use Rattle.std.proofs.Common.{sym, ap₂, ◌∙◌, subst, inl, inr, arith, length-append, length-take, length-drop, eqb-true, ltb-false}
use Rattle.std.specs.Prelude.{◌⊎◌, ◌↔◌, not, ℕ, zero, suc, ◌+◌, ◌-◌, ◌*◌, ◌^◌, ◌<◌, ◌≤◌, length, take, drop, get_or, ltb, eqb}
use mathlib.Core.List.{List, [], ◌∷◌, ◌++◌, map, Memᴰ}
use Rattle.std.proofs.Math.Decide.{dec_lt}
use Rattle.std.proofs.lemmas.Bool.{not-false}
use Rattle.kinds.specs.Refusal.{accepted}
use Rattle.kinds.specs.laws.Refusal.{accepted_inj, follow_inv, refuse_inv}
use Rattle.words.specs.Buffers.{filled}
use Rattle.forms.specs.Row.{row_form}
use Rattle.problems.specs.Problem.{Problem, posed}
use Rattle.problems.specs.prices.Prices.{PricedProblem, priced}
use Rattle.linear.specs.Basis.{dim}
use Rattle.linear.specs.Order.{Before, Rising, Ordered}
use Rattle.linear.specs.Select.{Once}
use Rattle.linear.specs.Span.{SameSpan}
use Rattle.linear.specs.Entry.{Solution, SolutionSpace, space, entries, chosen}
use Rattle.linear.specs.Prices.{total}
use Rattle.linear.specs.Rank.{Chosen, Computes, Rank}
use Rattle.linear.specs.Formulae as formulae
use Rattle.linear.specs.Formulae.{Fewest, formula, fewest, RankFormula}
use Rattle.linear.specs.Word.{word}
use Rattle.linear.proofs.Theorems.{one_basis, entry_solves, solution_listed, spaces_once, space_once, entry_space, entries_in_order, extension_shape, extension_first, no_fewer, rank_formula, rank_exactly, rank_above, rank_beyond}
use Rattle.linear.proofs.laws.Order.{before_asym, ordered_same, rising_mem, mem_get_d, mem_map, mem_map_inv}
use Rattle.linear.proofs.laws.Entry.{space_reduced}
use Rattle.linear.proofs.laws.Rank.{solution_within, entries_below}
use Rattle.bases.specs.rows.Rows.{row_of}
use Rattle.bases.specs.rows.laws.Rows.{row_sum_law, row_only}
use Rattle.catalogue.proofs.laws.of_listing.Run.{fitting_le, fitting_none}
use Rattle.catalogue.proofs.laws.of_listing.Placed.{entry_placed}
use Rattle.catalogue.specs.listing.Listing.{records, flat, fitting}
use Rattle.choices.specs.Choice.{formula_record}
use Rattle.rank.specs.fewest.Fewest.{Ranking, is, above, beyond, written, ranking}
use Rattle.catalogue.specs.Catalogue.{Catalogued, entry_listing, catalogue_of, catalogue}
use Rattle.rank.specs.Rank.{rank_for, rank}
use Rattle.records.specs.Length.{record_length}
use Rattle.records.specs.lookup.Lookup.{lookup}
use Rattle.records.specs.lookup.laws.Lookup.{not_shown, held}
use Rattle.theorems.specs.catalogue_and_rank.Theorems.{entry_record, CatalogueMeans, RankMeans}

-- ---- Catalogue
-- ---- Rank
-- ---- the proofs
module _ (gens targets : List ℕ) (k : ℕ) where
  spaces_all : (W : List ℕ) → Memᴰ W (map (space word gens targets) (entries word gens targets k)) ↔ Solution word gens targets k W
  spaces_all W = (
    λ m. mem_map_inv (space word gens targets) (Solution word gens targets k) (entries word gens targets k) (λ es n. entry_solves word gens targets k es n) W m,
    λ E. let r = solution_listed word gens targets k W E in subst (λ (X : List ℕ). Memᴰ X (map (space word gens targets) (entries word gens targets k))) r.2 (mem_map (space word gens targets) r.1),
  )

  no_entries : length (entries word gens targets k) ≡ 0 → entries word gens targets k ≡ []
  no_entries e = go (entries word gens targets k) refl
    where
      go : (l : List (List ℕ)) → entries word gens targets k ≡ l → l ≡ []
      go [] q = refl
      go (x ∷ l) q = absurd (let z = ap length q in omega arith)

  nothing_outside : (k < dim word targets) ⊎ (dim word gens < k) → length (entries word gens targets k) ≡ 0
  nothing_outside (inl h) = ap length (entries_below word gens targets k h)
  nothing_outside (inr h) = go (entries word gens targets k) refl
    where
      go : (l : List (List ℕ)) → entries word gens targets k ≡ l → length (entries word gens targets k) ≡ 0
      go [] q = ap length q
      go (es ∷ l) q =
          let E = entry_solves word gens targets k es (subst (Memᴰ es) (sym q) (mathlib.Core.List.Memᴰ.head refl)) in
          absurd (omega (arith, h, solution_within word gens targets k (space word gens targets es) E))

  listing_means : (old : List ℕ) → CatalogueMeans gens targets k old (entry_listing (record { generators = gens; targets = targets }) k old)
  unfolding entry_listing records
  listing_means old =
      record {
        ell = refl;
        extensions = entries word gens targets k;
        found = refl;
        all = spaces_all;
        once = spaces_once word gens targets k;
        each_space = space_once word gens targets k;
        every_entry = entry_space word gens targets k;
        shape = extension_shape word gens targets k;
        ordered = entries_in_order word gens targets k;
        first = extension_first word gens targets k;
        shown = refl;
        buffer = refl;
        record_at =
            λ i h.
            let size = record_length (dim word targets) k in
            let shown = fitting size (length (entries word gens targets k)) (length old) in
            entry_placed gens targets k (drop (shown * size) old) shown i h (fitting_le size (length (entries word gens targets k)) (length old));
        outside = λ h. (nothing_outside h, ap (λ (c : ℕ). fitting (record_length (dim word targets) k) c (length old)) (nothing_outside h) ∙ fitting_none (record_length (dim word targets) k) (length old));
        none = λ e h xs. no_fewer word gens targets k h (no_entries e) xs;
      }

-- ---- what is said is the only reply that means this
module _ (gens targets : List ℕ) (k : ℕ) (old : List ℕ) (c d : Catalogued) (M : CatalogueMeans gens targets k old c) (N : CatalogueMeans gens targets k old d) where
  -- an extension of the one is of the other
  moved : (es : List ℕ) → Memᴰ es M.extensions → Memᴰ es N.extensions
  moved es m =
      let E = N.each_space (space word gens targets es) (M.every_entry es m) in
      let F = N.shape E.0 E.1 in
      let G = M.shape es m in
      let q : space word gens targets E.0 ≡ space word gens targets es =
      one_basis word (space word gens targets E.0) (space word gens targets es) (space_reduced word gens targets E.0) (space_reduced word gens targets es) E.2 in
      subst (λ (fs : List ℕ). Memᴰ fs N.extensions) (sym (same E.0 (M.first es E.0 m F.0 F.1 q) (N.first E.0 es E.1 G.0 G.1 (sym q)))) E.1
    where
      same : (fs : List ℕ) → (es ≡ fs) ⊎ Before es fs → (fs ≡ es) ⊎ Before fs es → es ≡ fs
      same fs (inl e) b = e
      same fs (inr a) (inl e) = sym e
      same fs (inr a) (inr b) = absurd (before_asym es fs a b)

pub catalogue_pinned : (gens targets : List ℕ) (k : ℕ) (old : List ℕ) (c d : Catalogued) → CatalogueMeans gens targets k old c → CatalogueMeans gens targets k old d → c ≡ d
catalogue_pinned gens targets k old c d M N =
    ap₂ (λ (x : ℕ × ℕ) (y : ℕ × List ℕ). record { ell = x.0; found = x.1; shown = y.0; buffer = y.1 })
    (ap₂ (λ (l f : ℕ). (l, f)) ell found) (ap₂ (λ (s : ℕ) (b : List ℕ). (s, b)) shown buffer)
  where
    ell : c.ell ≡ d.ell
    ell = M.ell ∙ sym N.ell

    extensions : M.extensions ≡ N.extensions
    extensions = ordered_same M.extensions N.extensions M.ordered N.ordered (λ es. (moved gens targets k old c d M N es, moved gens targets k old d c N M es))

    found : c.found ≡ d.found
    found = M.found ∙ ap length extensions ∙ sym N.found

    shown : c.shown ≡ d.shown
    shown = M.shown ∙ ap (λ (f : ℕ). fitting (record_length (dim word targets) k) f (length old)) found ∙ sym N.shown

    buffer : c.buffer ≡ d.buffer
    buffer =
        M.buffer
        ∙ ap₂ (λ (s : ℕ) (l : List (List ℕ)). flat (take s (map (entry_record gens targets) l)) ++ drop (s * record_length (dim word targets) k) old) shown extensions
        ∙ sym N.buffer

-- of a posed problem
pub catalogue_of_means : (x : Problem) (k : ℕ) (old : List ℕ) (c : Catalogued) → catalogue_of x k old ≡ accepted c
    → (k ≤ dim word x.targets + 6) × CatalogueMeans x.generators x.targets k old c
unfolding catalogue_of
catalogue_of_means x k old c e =
    let j = refuse_inv 8 (ltb (dim word x.targets + 6) k) (accepted (entry_listing x k old)) c e in (
      ltb-false (dim word x.targets + 6) k j.0,
      subst (CatalogueMeans x.generators x.targets k old) (accepted_inj (entry_listing x k old) c j.1) (listing_means x.generators x.targets k old),
    )

pub catalogue_means : (number p q r k : ℕ) (gs ts old : List ℕ) (c : Catalogued) → catalogue number p q r k gs ts old ≡ accepted c
    → (x : Problem) × (posed number p q r gs ts [] ≡ accepted x) × (k ≤ dim word x.targets + 6) × CatalogueMeans x.generators x.targets k old c
unfolding catalogue
catalogue_means number p q r k gs ts old c e =
    let i = follow_inv (posed number p q r gs ts []) (λ x. catalogue_of x k old) c e in
    let m = catalogue_of_means i.0 k old c i.2 in
    (i.0, i.1, m.0, m.1)

-- ---- the look-up
-- a part of n words from i times n on, where there are n words, is within w
stretch : (i n w : ℕ) → n ≤ w - i * n → i * n + n ≤ w
stretch i zero w h = let z : i * 0 ≡ 0 = omega arith in omega arith
stretch i (suc n) w h = omega arith

-- Document 01: "An entry asked for by its number comes back as that stretch of the listing buffer; a number not below shown .. brings back an empty one."
pub look_up_means : (gens targets : List ℕ) (k : ℕ) (old : List ℕ) (c : Catalogued) (M : CatalogueMeans gens targets k old c) (number : ℕ)
    → (number < c.shown → lookup c.ell k c.shown number c.buffer ≡ entry_record gens targets (get_or M.extensions number []))
    × (c.shown ≤ number → lookup c.ell k c.shown number c.buffer ≡ [])
look_up_means gens targets k old c M number = (
  λ h. sym (held c.ell k c.shown number c.buffer h (near h) (room h))
      ∙ ap (λ (n : ℕ). take n (drop (number * record_length c.ell k) c.buffer))
      (let q : number * record_length c.ell k + record_length c.ell k - number * record_length c.ell k ≡ record_length c.ell k = omega arith in q)
      ∙ M.record_at number h,
  λ h. sym (not_shown c.ell k c.shown number c.buffer h),
)
  where
    near : number < c.shown → c.ell ≤ k
    near h = go (dec_lt k (dim word targets))
      where
        go : Dec (k < dim word targets) → c.ell ≤ k
        go (yes l) = absurd (let z = (M.outside (inl l)).1 in omega arith)
        go (no l) = let e = M.ell in omega arith

    room : number < c.shown → number * record_length c.ell k + record_length c.ell k ≤ length c.buffer
    room h =
        let es : List ℕ = get_or M.extensions number [] in
        let few : c.shown ≤ c.found = subst (λ (s : ℕ). s ≤ c.found) (sym M.shown) (fitting_le (record_length (dim word targets) k) c.found (length old)) in
        let m : Memᴰ es M.extensions = mem_get_d M.extensions number [] (let f = M.found in omega arith) in
        let a : length es ≡ k - dim word targets = (M.shape es m).0 in
        let b : length (space word gens targets es) ≡ k = ((M.all (space word gens targets es)).0 (mem_map (space word gens targets) m)).size in
        let l : length (take (record_length c.ell k) (drop (number * record_length c.ell k) c.buffer)) ≡ length (es ++ space word gens targets es) = ap length (M.record_at number h) in
        stretch number (record_length c.ell k) (length c.buffer)
        (omega (
          arith,
          l,
          a,
          b,
          M.ell,
          length-append es (space word gens targets es),
          length-take (record_length c.ell k) (drop (number * record_length c.ell k) c.buffer),
          length-drop (number * record_length c.ell k) c.buffer,
        ))

module _ (gens targets prices old : List ℕ) where
  formula_means : (es : List ℕ) → RankFormula word gens targets prices es → (t : ℕ) → Memᴰ t targets
      → row_form (chosen word gens es) (row_of (chosen word gens es) t) 0 ≡ t
  formula_means es R t m = row_sum_law (chosen word gens es) t (R.computes t m)

  ranking_means : (a : Ranking) → ranking gens targets prices old ≡ accepted a → RankMeans gens targets prices old a
  unfolding ranking formula_record
  ranking_means a e = go (fewest word gens targets prices) refl e
    where
      clash : {P : Type 0} → ◌≡◌ {A = ℕ} 0 1 → P
      clash z = absurd (omega arith)

      Few : Type 0
      Few = (xs : List ℕ) × Chosen word gens xs × (length xs ≤ dim word targets + 6) × Computes word targets xs

      go : (f : Fewest) → fewest word gens targets prices ≡ f → written gens targets old f ≡ accepted a → RankMeans gens targets prices old a
      go (formula es) q w =
          let j = refuse_inv 9 (ltb (length old) (length es + length targets)) (accepted (is (length es) (filled (formula_record gens targets es) old))) a w in
          subst (RankMeans gens targets prices old) (accepted_inj (is (length es) (filled (formula_record gens targets es) old)) a j.1)
          (record {
            number = (
                λ r buffer p. (
                  es,
                  (let z : length es ≡ r = cc in z),
                  rank_formula word gens targets prices es q,
                  (let z : filled (formula_record gens targets es) old ≡ buffer = cc in sym z),
                  formula_means es (rank_formula word gens targets prices es q),
                  λ t row h e. row_only (chosen word gens es) t row (rank_formula word gens targets prices es q).independent h e,
                )
                );
            exactly = (λ m. (rank_exactly word gens targets prices).0 (es, q), λ m. (length es, filled (formula_record gens targets es) old, refl));
            above_exactly = (
              λ p. clash cc,
              λ h. clash (let z = (rank_above word gens targets prices).1 h in let y : formula es ≡ formulae.above = sym q
                  ∙ z in cc),
            );
            beyond_exactly = (
              λ p. clash cc,
              λ h. clash (let z = (rank_beyond word gens targets prices).1 h in let y : formula es ≡ formulae.beyond = sym q
                  ∙ z in cc),
            );
          })
      go formulae.above q w =
          subst (RankMeans gens targets prices old) (accepted_inj above a w)
          (record {
            number = λ r buffer p. clash cc;
            exactly = (
              λ m. clash (let y : above ≡ is m.0 m.1 = m.2 in cc),
              λ (m : Few). clash
                  (let z = (rank_exactly word gens targets prices).1 m in let y : formulae.above ≡ formula z.0 = sym q ∙ z.1 in cc),
            );
            above_exactly = (λ p. (rank_above word gens targets prices).0 q, λ h. refl);
            beyond_exactly = (
              λ p. clash cc,
              λ h. clash (let z = (rank_beyond word gens targets prices).1 h in let y : formulae.above
                  ≡ formulae.beyond = sym q ∙ z in cc),
            );
          })
      go formulae.beyond q w =
          subst (RankMeans gens targets prices old) (accepted_inj beyond a w)
          (record {
            number = λ r buffer p. clash cc;
            exactly = (
              λ m. clash (let y : beyond ≡ is m.0 m.1 = m.2 in cc),
              λ (m : Few). clash
                  (let z = (rank_exactly word gens targets prices).1 m in let y : formulae.beyond ≡ formula z.0 = sym q ∙ z.1 in cc),
            );
            above_exactly = (
              λ p. clash cc,
              λ h. clash (let z = (rank_above word gens targets prices).1 h in let y : formulae.beyond ≡ formulae.above = sym q
                  ∙ z in cc),
            );
            beyond_exactly = (λ p. (rank_beyond word gens targets prices).0 q, λ h. refl);
          })

-- ---- what Rank says is the only reply that means this
module _ (gens targets prices old : List ℕ) (a b : Ranking) (M : RankMeans gens targets prices old a) (N : RankMeans gens targets prices old b) where
  -- of two formulae neither is cheaper, nor before the other
  one_formula : (es fs : List ℕ) → RankFormula word gens targets prices es → RankFormula word gens targets prices fs → length es ≡ length fs → es ≡ fs
  one_formula es fs E F l =
      go (E.first_of_equals fs F.rising (sym l) F.computes (sym even)) (F.first_of_equals es E.rising l E.computes even)
    where
      below : (hs : List ℕ) → RankFormula word gens targets prices hs → (e : ℕ) → Memᴰ e hs → e < length gens
      below hs H e m = (rising_mem 0 (length gens) hs H.rising e m).1

      even : total prices es ≡ total prices fs
      even = omega (arith, E.none_cheaper fs (below fs F) (sym l) F.computes, F.none_cheaper es (below es E) l E.computes)

      go : (es ≡ fs) ⊎ Before es fs → (fs ≡ es) ⊎ Before fs es → es ≡ fs
      go (inl e) f = e
      go (inr e) (inl f) = sym f
      go (inr e) (inr f) = absurd (before_asym es fs e f)

  -- the number of one is that of the other
  same_number : (r s : ℕ) (u v : List ℕ) → a ≡ is r u → b ≡ is s v → a ≡ b
  same_number r s u v p q =
      let X = M.number r u p in
      let Y = N.number s v q in
      let l : r ≡ s = least X.2.rank Y.2.rank X.1 Y.1 in
      let e : X.0 ≡ Y.0 = one_formula X.0 Y.0 X.2 Y.2 (X.1 ∙ l ∙ sym Y.1) in
      p ∙ ap₂ is l (X.3 ∙ ap (λ (es : List ℕ). filled (es ++ map (row_of (chosen word gens es)) targets) old) e ∙ sym Y.3) ∙ sym q
    where
      least : {m n : ℕ} → Rank word gens targets m → Rank word gens targets n → m ≡ r → n ≡ s → r ≡ s
      least A B x y =
          let f = A.least B.some.0 B.some.2 B.some.3 in
          let g = B.least A.some.0 A.some.2 A.some.3 in
          omega (arith, f, g, A.some.1, B.some.1, x, y)

  pub rank_pinned : a ≡ b
  rank_pinned = go a refl
    where
      go : (x : Ranking) → a ≡ x → a ≡ b
      go (is r u) p = let n = N.exactly.1 (M.exactly.0 (r, u, p)) in same_number r n.0 u n.1 p n.2
      go above p = p ∙ sym (N.above_exactly.1 (M.above_exactly.0 p))
      go beyond p = p ∙ sym (N.beyond_exactly.1 (M.beyond_exactly.0 p))

-- of a posed problem
pub rank_of_means : (x : Problem) (prices : List ℕ) (k : ℕ) (old : List ℕ) (a : Ranking) → rank_for x prices k old ≡ accepted a
    → (k ≡ 0) × RankMeans x.generators x.targets prices old a
unfolding rank_for
rank_of_means x prices k old a e =
    let j = refuse_inv 8 (not (eqb k 0)) (ranking x.generators x.targets prices old) a e in
    (eqb-true k 0 (not-false (eqb k 0) j.0), ranking_means x.generators x.targets prices old a j.1)

pub rank_means : (number p q r k : ℕ) (gs ts costs old : List ℕ) (a : Ranking) → rank number p q r k gs ts costs old ≡ accepted a
    → (x : PricedProblem) × (priced number p q r gs ts costs ≡ accepted x) × (k ≡ 0)
    × RankMeans x.problem.generators x.problem.targets x.prices old a
unfolding rank
rank_means number p q r k gs ts costs old a e =
    let i = follow_inv (priced number p q r gs ts costs) (λ x. rank_for x.problem x.prices k old) a e in
    let m = rank_of_means i.0.problem i.0.prices k old a i.2 in
    (i.0, i.1, m.0, m.1)
