-- What Rank says: that it is the rank, and at the least price.
--   Least n k fs                    == fs is the cheapest formula for the least number of dimensions with an entry, out of k, .., k + n - 1
--   least_some                      what `least_from` finds is the cheapest formula for the least number of dimensions with an entry
--   least_none                      where it finds nothing, none of the numbers of dimensions has an entry
--   fewest_formula                  a formula that Rank says has as many products as the rank, and no other with so many is cheaper or as cheap and earlier
--   fewest_exactly                  it says one exactly if ℓ + 6 or fewer generators compute the targets
--   fewest_above, fewest_beyond     when it says above and beyond
--   fewest_some, fewest_none, fewest_missed   how it is found; `came`: the three answers, with what they come from
-- Assumes nothing.
use Rattle.std.proofs.Math.Path.{◌≡◌, refl, ap}
use Rattle.std.proofs.Common.{sym, ◌∙◌, subst, inl, inr, true≢false, arith}
use Rattle.std.specs.Prelude.{◌⊎◌, ◌↔◌, Bool, cond, length, Option, None, Some}
use Rattle.std.proofs.Math.Bool.{true, false, not}
use mathlib.Core.List.{List, [], Memᴰ}
use Prim.Native.Nat.{ℕ, zero, suc, ◌+◌, ◌<◌, ◌≤◌}
use Rattle.std.proofs.Math.Decide.{dec_lt, dec_le, ℕ_discrete}
use Rattle.linear.specs.Space.{Space}
use Rattle.linear.specs.Span.{Span}
use Rattle.linear.specs.Basis.{basis_of, dim}
use Rattle.linear.specs.Order.{Before}
use Rattle.linear.specs.Entry.{inside, chosen, Solution, space, entries}
use Rattle.linear.specs.Rank.{Chosen, Computes, Rank}
use Rattle.linear.specs.Sorted.{sorted}
use Rattle.linear.specs.Prices.{total, cheapest}
use Rattle.linear.specs.Formulae.{or_else, Fewest, formula, above, beyond, formulae, all_formulae}
use Rattle.linear.specs.Formulae.{least_from, missed, first_formula, fewest, Formula, RankFormula}
use Rattle.linear.specs.laws.Span.{span_mem, span_bind, span_mono}
use Rattle.linear.proofs.laws.Insert.{basis_of_reduced, basis_of_span}
use Rattle.linear.proofs.laws.Dimension.{dim_le, dim_length}
use Rattle.linear.proofs.laws.Select.{any_of_no, no_any_of}
use Rattle.linear.proofs.laws.Entry.{inside_yes, yes_inside, entries_sound}
use Rattle.linear.proofs.laws.Extension.{chosen_length, entries_complete}
use Rattle.linear.proofs.laws.Prices.{total_sorted, before_total, Precedes, Cheapest, cheapest_is, cheapest_none}
use Rattle.linear.proofs.laws.Formulae.{formulae_are}
use Rattle.linear.proofs.laws.AllFormulae.{all_formulae_mem, all_formulae_none, sorted_listed, least_listed}
use Rattle.linear.proofs.laws.Rank.{chosen_gens, generators_in_mem, solution_from, rank_is}

-- ---- what the generators span
module _ (S : Space) (gens targets : List S.Vec) where
  open S use {Vec}

  missed_no : missed S gens targets ≡ false → Computes S targets gens
  unfolding missed
  missed_no e t m = go (inside S (basis_of S gens) t) refl (any_of_no (λ t. not (inside S (basis_of S gens) t)) targets e t m)
    where
      go : (b : Bool) → inside S (basis_of S gens) t ≡ b → not b ≡ false → Span S gens t
      go true q n = (basis_of_span S gens t).0 (inside_yes S (basis_of S gens) t q)
      go false q n = absurd (true≢false n)

  no_missed : Computes S targets gens → missed S gens targets ≡ false
  unfolding missed
  no_missed h =
      no_any_of (λ t. not (inside S (basis_of S gens) t)) targets
      (λ t m. ap not (yes_inside S (basis_of S gens) (basis_of_reduced S gens) t ((basis_of_span S gens t).1 (h t m))))

  -- the generators' own span is a solution space, if it holds the targets
  whole : Computes S targets gens → Solution S gens targets (dim S gens) (basis_of S gens)
  unfolding dim
  whole h =
      record {
        reduced = basis_of_reduced S gens;
        size = refl;
        holds = λ t m. (basis_of_span S gens t).1 (h t m);
        spanned = λ v s. span_mono S (λ x m. generators_in_mem S gens targets (basis_of S gens) (basis_of_reduced S gens) x m ((basis_of_span S gens x).1
            (span_mem S m))) ((basis_of_span S gens v).0 s);
      }

  -- few generators that compute the targets: some entry has at most as many dimensions
  some_entry : (xs : List Vec) → Chosen S gens xs → Computes S targets xs
      → (k : ℕ) × (dim S targets ≤ k) × (k ≤ length xs) × (W : List Vec) × Solution S gens targets k W
  some_entry xs h c = go (dec_le (length xs) (dim S gens))
    where
      all : Computes S targets gens
      all t m = span_mono S h (c t m)

      size : (ys : List Vec) → Computes S targets ys → dim S targets ≤ dim S ys
      size ys d = dim_le S targets ys (λ v s. span_bind S d s)

      go : Dec (length xs ≤ dim S gens) → (k : ℕ) × (dim S targets ≤ k) × (k ≤ length xs) × (W : List Vec) × Solution S gens targets k W
      go (yes l) =
          let E = solution_from S gens targets (length xs) l xs h (omega arith) c in
          (length xs, (let a = size xs c in let b = dim_length S xs in omega arith), omega arith, E.0, E.1)
      go (no l) = (dim S gens, size gens all, omega arith, basis_of S gens, whole all)

module _ (S : Space) (gens targets : List S.Vec) (prices : List ℕ) where
  open S use {Vec}

  -- what is found in n numbers of dimensions, from k on
  abbrev found : ℕ → ℕ → Option (List ℕ)
  found n k = least_from S gens targets prices n k

  -- ---- the least number of dimensions with an entry
  pub record Least (n k : ℕ) (fs : List ℕ) : Type 0 where
    pub dims : ℕ
    pub from : k ≤ dims
    pub below : dims < k + n
    pub is : cheapest prices (all_formulae S gens targets dims) ≡ Some fs
    pub none : (j : ℕ) → k ≤ j → j < dims → entries S gens targets j ≡ []

  -- no cheapest formula: no entry
  no_entries : (k : ℕ) → cheapest prices (all_formulae S gens targets k) ≡ None → entries S gens targets k ≡ []
  no_entries k q = (all_formulae_none S gens targets k).0 ((cheapest_none prices (all_formulae S gens targets k)).0 q)

  pub least_some : (n k : ℕ) (fs : List ℕ) → least_from S gens targets prices n k ≡ Some fs → Least n k fs
  unfolding least_from
  least_some zero k fs e = absurd (let z : ◌≡◌ {A = ℕ} 0 1 = cc in omega arith)
  least_some (suc n) k fs e = go (cheapest prices (all_formulae S gens targets k)) refl e (least_some n (suc k) fs)
    where
      go : (o : Option (List ℕ)) → cheapest prices (all_formulae S gens targets k) ≡ o → or_else o (found n (suc k)) ≡ Some fs
          → (found n (suc k) ≡ Some fs → Least n (suc k) fs) → Least (suc n) k fs
      go (Some x) q e ih = record { dims = k; from = omega arith; below = omega arith; is = q ∙ e; none = λ j a b. absurd (omega arith) }
      go None q e ih =
          let L = ih e in
          record {
            dims = L.dims;
            from = (let a = L.from in omega arith);
            below = (let a = L.below in omega arith);
            is = L.is;
            none = λ j a b. at j a L b (ℕ_discrete j k);
          }
        where
          at : (j : ℕ) → k ≤ j → (L : Least n (suc k) fs) → j < L.dims → Dec (j ≡ k) → entries S gens targets j ≡ []
          at j a L b (yes d) = ap (entries S gens targets) d ∙ no_entries k q
          at j a L b (no d) = L.none j (omega arith) b

  pub least_none : (n k : ℕ) → least_from S gens targets prices n k ≡ None → (j : ℕ) → k ≤ j → j < k + n → entries S gens targets j ≡ []
  unfolding least_from
  least_none zero k e j a b = absurd (omega arith)
  least_none (suc n) k e j a b = go (cheapest prices (all_formulae S gens targets k)) refl e (ℕ_discrete j k) (λ d. least_none n (suc k) d j)
    where
      go : (o : Option (List ℕ)) → cheapest prices (all_formulae S gens targets k) ≡ o → or_else o (found n (suc k)) ≡ None → Dec (j ≡ k)
          → (found n (suc k) ≡ None → suc k ≤ j → j < suc k + n → entries S gens targets j ≡ []) → entries S gens targets j ≡ []
      go (Some x) q e d ih = absurd (let z : ◌≡◌ {A = ℕ} 0 1 = cc in omega arith)
      go None q e (yes d) ih = ap (entries S gens targets) d ∙ no_entries k q
      go None q e (no d) ih = ih e (omega arith) (omega arith)

  -- ---- Rank
  abbrev says : Bool → Fewest
  says b = cond b beyond (first_formula (found 7 (dim S targets)))

  pub fewest_some : (fs : List ℕ) → missed S gens targets ≡ false → least_from S gens targets prices 7 (dim S targets) ≡ Some fs
      → fewest S gens targets prices ≡ formula fs
  unfolding fewest
  fewest_some fs b e = ap says b ∙ ap first_formula e

  pub fewest_none : missed S gens targets ≡ false → least_from S gens targets prices 7 (dim S targets) ≡ None → fewest S gens targets prices ≡ above
  unfolding fewest
  fewest_none b e = ap says b ∙ ap first_formula e

  pub fewest_missed : missed S gens targets ≡ true → fewest S gens targets prices ≡ beyond
  unfolding fewest
  fewest_missed b = ap says b

  -- the three answers, with what they come from
  pub data Came : Fewest → Type 0 where
    far : missed S gens targets ≡ true → Came beyond
    high : missed S gens targets ≡ false → least_from S gens targets prices 7 (dim S targets) ≡ None → Came above
    here : (fs : List ℕ) → missed S gens targets ≡ false → least_from S gens targets prices 7 (dim S targets) ≡ Some fs → Came (formula fs)

  pub came : Came (fewest S gens targets prices)
  came = go (missed S gens targets) refl (found 7 (dim S targets)) refl
    where
      go : (b : Bool) → missed S gens targets ≡ b → (o : Option (List ℕ)) → found 7 (dim S targets) ≡ o → Came (fewest S gens targets prices)
      go true q o e = subst Came (sym (fewest_missed q)) (far q)
      go false q None e = subst Came (sym (fewest_none q e)) (high q e)
      go false q (Some fs) e = subst Came (sym (fewest_some fs q e)) (here fs q e)

  pub fewest_beyond : (fewest S gens targets prices ≡ beyond) ↔ (Computes S targets gens → ⊥)
  fewest_beyond = (λ e h. from (fewest S gens targets prices) came e h, λ n. to n (missed S gens targets) refl)
    where
      from : (a : Fewest) → Came a → a ≡ beyond → Computes S targets gens → ⊥
      from beyond (far q) e h = true≢false (sym q ∙ no_missed S gens targets h)
      from above (high q r) e h = let z : ◌≡◌ {A = ℕ} 0 1 = cc in omega arith
      from (formula gs) (here fs q r) e h = let z : ◌≡◌ {A = ℕ} 0 1 = cc in omega arith

      to : (Computes S targets gens → ⊥) → (b : Bool) → missed S gens targets ≡ b → fewest S gens targets prices ≡ beyond
      to n true q = fewest_missed q
      to n false q = absurd (n (missed_no S gens targets q))

  -- ---- what is said
  rank_formula : (fs : List ℕ) → found 7 (dim S targets) ≡ Some fs → RankFormula S gens targets prices fs
  rank_formula fs e =
      record {
        entry = m.0;
        an_entry = subst (λ k. Memᴰ m.0 (entries S gens targets k)) (sym size) m.1;
        formula_of_law = m.2;
        rising = F.rising;
        independent = F.independent;
        computes = λ t n. F.spanning.1 t (E.holds t n);
        near = (let a = L.below in omega (arith, size, a));
        rank = subst (Rank S gens targets) (sym size) R;
        none_cheaper = λ es h l c. dear es (C.first (sorted es) (sorted_listed S gens targets L.dims R es h (l ∙ size) c))
            (dec_lt (total prices es) (total prices fs));
        first_of_equals = λ es h l c q. tied es (C.first es ((least_listed S gens targets L.dims R es).1 (h, l ∙ size, c))) q (before_total fs es);
      }
    where
      L : Least 7 (dim S targets) fs
      L = least_some 7 (dim S targets) fs e

      C : Cheapest prices (all_formulae S gens targets L.dims) fs
      C = cheapest_is prices (all_formulae S gens targets L.dims) fs L.is

      m : (es : List ℕ) × Memᴰ es (entries S gens targets L.dims) × Memᴰ fs (formulae S gens (space S gens targets es))
      m = all_formulae_mem S gens targets L.dims fs C.member

      E : Solution S gens targets L.dims (space S gens targets m.0)
      E = entries_sound S gens targets L.dims m.0 m.1

      F : Formula S gens (space S gens targets m.0) fs
      F = (formulae_are S gens (space S gens targets m.0) E.reduced fs).0 m.2

      size : length fs ≡ L.dims
      size = F.number ∙ E.size

      R : Rank S gens targets L.dims
      R = rank_is S gens targets L.dims m.0 m.1 L.none

      dear : (es : List ℕ) → ¬ Precedes prices (sorted es) fs → Dec (total prices es < total prices fs) → total prices fs ≤ total prices es
      dear es n (yes h) = absurd (n (inl (omega (arith, total_sorted prices es, h))))
      dear es n (no h) = omega arith

      tied : (es : List ℕ) → ¬ Precedes prices es fs → total prices es ≡ total prices fs → (fs ≡ es) ⊎ (Before fs es ⊎ Before es fs) → (fs ≡ es) ⊎ Before fs es
      tied es n q (inl p) = inl p
      tied es n q (inr (inl b)) = inr b
      tied es n q (inr (inr b)) = absurd (n (inr (q, b)))

  pub fewest_formula : (fs : List ℕ) → fewest S gens targets prices ≡ formula fs → RankFormula S gens targets prices fs
  fewest_formula fs e = go (fewest S gens targets prices) came e
    where
      go : (a : Fewest) → Came a → a ≡ formula fs → RankFormula S gens targets prices fs
      go beyond (far q) e = absurd (let z : ◌≡◌ {A = ℕ} 0 1 = cc in omega arith)
      go above (high q r) e = absurd (let z : ◌≡◌ {A = ℕ} 0 1 = cc in omega arith)
      go (formula gs) (here es q r) e = subst (RankFormula S gens targets prices) (let z : es ≡ fs = cc in z) (rank_formula es r)

  -- it is said exactly if ℓ + 6 or fewer generators compute the targets
  pub fewest_exactly : ((fs : List ℕ) × (fewest S gens targets prices ≡ formula fs)) ↔ ((xs : List Vec) × Chosen S gens xs ×
      (length xs ≤ dim S targets + 6) × Computes S targets xs)
  fewest_exactly = (λ (fs, e). from fs (fewest_formula fs e), λ (xs, h, l, c). to xs h l c)
    where
      from : (fs : List ℕ) → RankFormula S gens targets prices fs
          → (xs : List Vec) × Chosen S gens xs × (length xs ≤ dim S targets + 6) × Computes S targets xs
      from fs R = (
        chosen S gens fs,
        chosen_gens S gens targets 0 fs R.rising,
        (let a = R.near in omega (arith, a, chosen_length S gens [] fs)),
        R.computes,
      )

      to : (xs : List Vec) → Chosen S gens xs → length xs ≤ dim S targets + 6 → Computes S targets xs
          → (fs : List ℕ) × (fewest S gens targets prices ≡ formula fs)
      to xs h l c = go (found 7 (dim S targets)) refl
        where
          q : missed S gens targets ≡ false
          q = no_missed S gens targets (λ t m. span_mono S h (c t m))

          go : (o : Option (List ℕ)) → found 7 (dim S targets) ≡ o → (fs : List ℕ) × (fewest S gens targets prices ≡ formula fs)
          go (Some fs) e = (fs, fewest_some fs q e)
          go None e =
              let s = some_entry S gens targets xs h c in
              let m = entries_complete S gens targets s.0 s.3 s.4 in
              absurd (mathlib.Core.List.Memᴰ.not-nil (subst (Memᴰ m.0) (least_none 7 (dim S targets) e s.0 s.1
              (let a : s.0 ≤ length xs = s.2 in omega arith)) m.1))

  pub fewest_above : (fewest S gens targets prices ≡ above) ↔ (Computes S targets gens ×
      ((k : ℕ) → dim S targets ≤ k → k ≤ dim S targets + 6 → entries S gens targets k ≡ []))
  fewest_above = (λ e. from (fewest S gens targets prices) came e, λ (h, n). to h n (found 7 (dim S targets)) refl)
    where
      from : (a : Fewest) → Came a → a ≡ above
          → Computes S targets gens × ((k : ℕ) → dim S targets ≤ k → k ≤ dim S targets + 6 → entries S gens targets k ≡ [])
      from beyond (far q) e = absurd (let z : ◌≡◌ {A = ℕ} 0 1 = cc in omega arith)
      from above (high q r) e = (missed_no S gens targets q, λ k a b. least_none 7 (dim S targets) r k a (omega arith))
      from (formula gs) (here fs q r) e = absurd (let z : ◌≡◌ {A = ℕ} 0 1 = cc in omega arith)

      to : Computes S targets gens → ((k : ℕ) → dim S targets ≤ k → k ≤ dim S targets + 6 → entries S gens targets k ≡ []) → (o : Option (List ℕ))
          → found 7 (dim S targets) ≡ o → fewest S gens targets prices ≡ above
      to h n None e = fewest_none (no_missed S gens targets h) e
      to h n (Some fs) e =
          let L = least_some 7 (dim S targets) fs e in
          let m = all_formulae_mem S gens targets L.dims fs (cheapest_is prices (all_formulae S gens targets L.dims) fs L.is).member in
          absurd (mathlib.Core.List.Memᴰ.not-nil (subst (Memᴰ m.0) (n L.dims L.from (let a = L.below in omega arith)) m.1))
