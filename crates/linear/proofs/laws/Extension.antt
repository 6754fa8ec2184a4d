-- The extension of a solution space: the greedy one, which is the first in dictionary order. So each solution space is listed, once.
--   extension W        == the greedy choice of generators that with the targets spans W
--   entries_complete   each solution space for k is the space of an entry
--   entries_first      an entry is the first of all rising lists with its space
--   entries_greedy     an entry is the greedy extension of its space
--   prune              what a search may leave out: after the numbers p no entry goes on with e if a smaller j was left out that e would bring in
-- Assumes nothing.
use Rattle.std.specs.Prelude.{◌≡◌, ◌≢◌, ◌⊎◌, Bool, true}
use Rattle.std.proofs.Math.Path.{refl, ap}
use Rattle.std.proofs.Common.{sym, ◌∙◌, subst, inl, inr, arith}
use mathlib.Core.List.Memᴰ
use mathlib.Core.List.{List, [], ◌∷◌, ◌++◌, Memᴰ}
use Prim.Native.Nat.{ℕ, suc, ◌+◌, ◌-◌, ◌<◌}
use Rattle.std.proofs.Math.ListN.{length}
use Rattle.linear.specs.Space.{Space}
use Rattle.linear.specs.Span.{Span, Within}
use Rattle.linear.specs.Basis.{reduce, insert, inserts, basis_of, dim}
use Rattle.linear.specs.Order.{Before, Rising, rising_lists}
use Rattle.linear.specs.Entry.{same_basis, inside, generator, chosen, generators_in, fits, Solution, space, entries}
use Rattle.linear.specs.laws.Span.{cast, span_add, span_scale, span_mem, span_bind, span_head, span_rest}
use Rattle.linear.proofs.laws.Reduce.{reduce_rest, member}
use Rattle.linear.proofs.laws.Insert.{inserts_reduced, inserts_span, basis_of_reduced, basis_of_span}
use Rattle.linear.proofs.laws.Dimension.{Fresh, unique, inserts_fresh, fresh_of_length}
use Rattle.linear.proofs.laws.Order.{before_asym, RisingList, rising_sound, rising_complete, rising_ordered, mem_index}
use Rattle.linear.proofs.laws.Select.{only_mem, first_mem, first_some, first_first}
use Rattle.linear.proofs.laws.Entry.{same_basis_yes, same_basis_no, inside_yes, yes_inside, chosen_each, mem_chosen, yes_fits, space_reduced, entries_sound}
use Rattle.linear.specs.Greedy.{greedy}
use Rattle.linear.specs.Extension.{extension}
use Rattle.linear.proofs.laws.Greedy.{inserts_within, greedy_rising, greedy_passes, greedy_fresh, greedy_covers, greedy_first, greedy_skip}

module _ (S : Space) (gens targets : List S.Vec) where
  open S use {fld, Vec, nul, add, scale, is_nul}
  open fld use {K, 𝟘, 𝟙, neg}

  abbrev gen : ℕ → Vec
  gen j = generator S gens j

  abbrev gens_at : List ℕ → List Vec
  gens_at es = chosen S gens es

  -- the test of an extension
  abbrev is_in : List Vec → ℕ → Bool
  is_in W j = inside S W (gen j)

  -- ---- the generators with given numbers, and the space that they span with the targets
  pub chosen_length : (es : List ℕ) → length (gens_at es) ≡ length es
  unfolding chosen
  chosen_length [] = refl
  chosen_length (e ∷ es) = ap suc (chosen_length es)

  pub inserts_append : (xs ys B : List Vec) → inserts S B (xs ++ ys) ≡ inserts S (inserts S B xs) ys
  unfolding inserts
  inserts_append [] ys B = refl
  inserts_append (x ∷ xs) ys B = inserts_append xs ys (insert S B x)

  pub chosen_append : (p q : List ℕ) → gens_at (p ++ q) ≡ gens_at p ++ gens_at q
  unfolding chosen
  chosen_append [] q = refl
  chosen_append (e ∷ p) q = ap {B = List Vec} (λ r. gen e ∷ r) (chosen_append p q)

  pub space_append : (p : List ℕ) (e : ℕ) (q : List ℕ) → space S gens targets (p ++ e ∷ q) ≡ inserts S (space S gens targets p) (gen e ∷ gens_at q)
  unfolding space chosen
  space_append p e q = ap (inserts S (basis_of S targets)) (chosen_append p (e ∷ q)) ∙ inserts_append (gens_at p) (gen e ∷ gens_at q) (basis_of S targets)

  -- ---- the greedy extension of an entry
  pub extension_space : (k : ℕ) (W : List Vec) → Solution S gens targets k W → space S gens targets (extension S gens targets W) ≡ W
  unfolding extension space generators_in generator
  extension_space k W E =
      unique S (inserts S T (gens_at gs)) W (inserts_reduced S (gens_at gs) T (basis_of_reduced S targets)) E.reduced
      (λ v s. span_bind S (λ x m. low x (Memᴰ.append_cases (gens_at gs) m)) ((inserts_span S (gens_at gs) T v).0 s))
      (λ v s. span_bind S high (E.spanned v s))
    where
      T : List Vec
      T = basis_of S targets

      gs : List ℕ
      gs = greedy S gens (is_in W) T (length gens) 0

      low : (x : Vec) → Memᴰ x (gens_at gs) ⊎ Memᴰ x T → Span S W x
      low x (inl m) = chosen_each S gens (Span S W) gs (λ e k. inside_yes S W (gen e) (greedy_passes S gens (is_in W) (length gens) 0 T e k)) x m
      low x (inr m) = span_bind S E.holds ((basis_of_span S targets x).0 (span_mem S m))

      high : (x : Vec) → Memᴰ x (generators_in S gens W) → Span S (inserts S T (gens_at gs)) x
      high x m =
          let a = only_mem (inside S W) gens x m in
          let j = mem_index nul a.0 in
          let b : j.0 < 0 + length gens = let c = j.1 in omega arith in
          cast S j.2 (greedy_covers S gens (is_in W) (length gens) 0 T j.0 (omega arith) b (ap (inside S W) (sym j.2) ∙ a.1))

  -- it has as many numbers as the space has dimensions beyond the targets'
  pub extension_length : (k : ℕ) (W : List Vec) → Solution S gens targets k W → dim S targets + length (extension S gens targets W) ≡ k
  unfolding extension space dim
  extension_length k W E =
      let f : length (inserts S (basis_of S targets) (gens_at (extension S gens targets W))) ≡ length (basis_of S targets) + length (gens_at (extension S gens targets W)) =
      inserts_fresh S (gens_at (extension S gens targets W)) (basis_of S targets) (basis_of_reduced S targets)
      (greedy_fresh S gens (is_in W) (length gens) 0 (basis_of S targets) (basis_of_reduced S targets)) in
      let g : length (inserts S (basis_of S targets) (gens_at (extension S gens targets W))) ≡ length W = ap length (extension_space k W E) in
      let h : length W ≡ k = E.size in
      omega (arith, f, g, h, chosen_length (extension S gens targets W))

  pub extension_rising : (k : ℕ) (W : List Vec) → Solution S gens targets k W → Memᴰ (extension S gens targets W) (rising_lists (length gens) 0 (k - dim S targets))
  unfolding extension
  extension_rising k W E =
      rising_complete (length gens) 0 (k - dim S targets) (length gens) (omega arith) (extension S gens targets W)
      (omega (arith, extension_length k W E)) (greedy_rising S gens (is_in W) (length gens) 0 (length gens) (basis_of S targets) (omega arith))

  -- ---- the theorem: every entry is listed, and no space twice
  pub entries_complete : (k : ℕ) (W : List Vec) → Solution S gens targets k W
      → (es : List ℕ) × Memᴰ es (entries S gens targets k) × (space S gens targets es ≡ W)
  unfolding entries
  entries_complete k W E =
      let q : space S gens targets (extension S gens targets W) ≡ W = extension_space k W E in
      let r = first_some (space S gens targets) (fits S gens k) (same_basis S) (same_basis_yes S) (same_basis_no S) (rising_lists (length gens) 0
      (k - dim S targets)) []
      (extension S gens targets W) (extension_rising k W E)
      (ap (fits S gens k) q ∙ yes_fits S gens k W E.reduced E.size E.spanned) (λ y m. absurd (Memᴰ.not-nil m)) in
      (r.0, r.1, r.2 ∙ q)

  -- ---- an entry is the first of all rising lists with its space
  pub entries_first : (k : ℕ) (es fs : List ℕ) → Memᴰ es (entries S gens targets k) → length fs ≡ k - dim S targets → Rising 0 (length gens) fs
      → space S gens targets fs ≡ space S gens targets es → (es ≡ fs) ⊎ Before es fs
  unfolding entries
  entries_first k es fs m l r e =
      first_first (space S gens targets) (fits S gens k) (same_basis S) (same_basis_yes S) (same_basis_no S) Before (rising_lists (length gens) 0
      (k - dim S targets)) []
      (rising_ordered (length gens) 0 (k - dim S targets)) es m fs (rising_complete (length gens) 0 (k - dim S targets) (length gens) (omega arith) fs l r) e

  -- ---- the extension listed is the greedy one
  pub entries_greedy : (k : ℕ) (es : List ℕ) → Memᴰ es (entries S gens targets k) → extension S gens targets (space S gens targets es) ≡ es
  unfolding entries
  entries_greedy k es m = go first second
    where
      W : List Vec
      W = space S gens targets es

      E : Solution S gens targets k W
      E = entries_sound S gens targets k es m

      picked : Memᴰ es (rising_lists (length gens) 0 (k - dim S targets)) × (fits S gens k W ≡ true) ×
          ((y : List ℕ) → Memᴰ y [] → space S gens targets y ≢ W)
      picked = first_mem (space S gens targets) (fits S gens k) (same_basis S) (same_basis_yes S) (same_basis_no S) (rising_lists (length gens) 0
          (k - dim S targets)) [] es m

      combo : RisingList (k - dim S targets) 0 (length gens) es
      combo = rising_sound (length gens) 0 (k - dim S targets) (length gens) (omega arith) es picked.0

      first : (es ≡ extension S gens targets W) ⊎ Before es (extension S gens targets W)
      first =
          first_first (space S gens targets) (fits S gens k) (same_basis S) (same_basis_yes S) (same_basis_no S) Before (rising_lists (length gens) 0
          (k - dim S targets)) []
          (rising_ordered (length gens) 0 (k - dim S targets)) es m (extension S gens targets W) (extension_rising k W E) (extension_space k W E)

      el : dim S targets + length (extension S gens targets W) ≡ k
      el = extension_length k W E

      fresh : Fresh S (basis_of S targets) (gens_at es)
      fresh = unfold space dim in
          fresh_of_length S (gens_at es) (basis_of S targets) (basis_of_reduced S targets) (omega (arith, E.size, el, combo.0, chosen_length es))

      second : (extension S gens targets W ≡ es) ⊎ Before (extension S gens targets W) es
      second = unfold extension space in
          greedy_first S gens (is_in W) (length gens) 0 (length gens) (basis_of S targets) (omega arith) (basis_of_reduced S targets) es combo.1 fresh
          (λ e k. yes_inside S W E.reduced (gen e)
          ((inserts_span S (gens_at es) (basis_of S targets) (gen e)).1 (span_mem S (Memᴰ.append_left (basis_of S targets) (mem_chosen S gens es e k)))))
          (omega (arith, el, combo.0))

      go : (es ≡ extension S gens targets W) ⊎ Before es (extension S gens targets W) → (extension S gens targets W ≡ es) ⊎ Before (extension S gens targets W) es → extension S gens targets W ≡ es
      go (inl a) b = sym a
      go (inr a) (inl b) = b
      go (inr a) (inr b) = absurd (before_asym es (extension S gens targets W) a b)

  -- and back: a combination that spans an entry and is its greedy extension is listed
  pub greedy_listed : (k : ℕ) (es : List ℕ) → Solution S gens targets k (space S gens targets es) → extension S gens targets (space S gens targets es) ≡ es
      → Memᴰ es (entries S gens targets k)
  greedy_listed k es E q =
      let r = entries_complete k (space S gens targets es) E in
      let e : r.0 ≡ es = sym (entries_greedy k r.0 r.1) ∙ ap (extension S gens targets) r.2 ∙ q in
      subst (λ x. Memᴰ x (entries S gens targets k)) e r.1

  -- ---- what prunes: after a prefix p no entry goes on with e if some j < e was left out that e would bring in
  pub prune : (k : ℕ) (p : List ℕ) (e : ℕ) (q : List ℕ) → Memᴰ (p ++ e ∷ q) (entries S gens targets k)
      → (j : ℕ) → j < e → ¬ Memᴰ j p → (c : K)
      → reduce S (space S gens targets p) (gen j) ≡ scale c (reduce S (space S gens targets p) (gen e)) → reduce S (space S gens targets p) (gen j) ≡ nul
  prune k p e q m j l n c h = (member S P (space_reduced S gens targets p) (gen j)).0 skipped
    where
      P : List Vec
      P = space S gens targets p

      W : List Vec
      W = space S gens targets (p ++ e ∷ q)

      E : Solution S gens targets k W
      E = entries_sound S gens targets k (p ++ e ∷ q) m

      split : W ≡ inserts S P (gen e ∷ gens_at q)
      split = space_append p e q

      sub : Within S P W
      sub = subst (Within S P) (sym split) (inserts_within S gens (gen e ∷ gens_at q) P)

      e_in : Span S W (gen e)
      e_in = subst (λ X. Span S X (gen e)) (sym split) ((inserts_span S (gen e ∷ gens_at q) P (gen e)).1 (span_head S (gen e) (gens_at q ++ P)))

      j_in : Span S W (gen j)
      j_in =
          let a = reduce_rest S P (gen j) in
          let b = reduce_rest S P (gen e) in
          cast S (a.2 ∙ ap (add a.0) h) (span_add S (sub a.0 a.1) (span_scale S c (span_rest S b.2 (sub b.0 b.1) e_in)))

      skipped : Span S P (gen j)
      skipped = unfold extension space in
          greedy_skip S gens (is_in W) (length gens) 0 (basis_of S targets) p e q (entries_greedy k (p ++ e ∷ q) m) j (omega arith) l n
          (yes_inside S W E.reduced (gen j) j_in)
