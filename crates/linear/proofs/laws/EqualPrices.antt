-- Where all generators cost the same, Rank says the first formula of the first entry.
--   greedy_before        two greedy choices from a space C that holds D: if the one from C over one test stands before that over another, so do those from D
--   first_is             the greedy choice inside the space of an entry is a formula of it, the first
--   formulae_before      so the first formulae of entries stand in the order of the entries
--   total_even           as many generators cost as much
--   equal_prices         what Rank says is the first formula of the first entry
-- Assumes nothing.
use Rattle.std.specs.Prelude.{◌≡◌, ◌⊎◌, Bool, true, false, cond, length, get_or, Some}
use Rattle.std.proofs.Math.Path.{refl}
use Rattle.std.proofs.Common.{sym, ap, ap₂, ◌∙◌, subst, inl, inr, ⊎_elim, arith}
use mathlib.Core.List.Memᴰ
use mathlib.Core.List.{List, [], ◌∷◌, Memᴰ}
use Prim.Native.Nat.{ℕ, zero, suc, ◌+◌, ◌<◌}
use Rattle.std.proofs.Math.Nat.{suc_inj}
use Rattle.linear.specs.Space.{Space}
use Rattle.linear.specs.Span.{Span, Within}
use Rattle.linear.specs.Basis.{insert, basis_of, Reduced}
use Rattle.linear.specs.Order.{Before, Rising, Ordered}
use Rattle.linear.specs.Entry.{inside, generator, Solution, space, entries}
use Rattle.linear.specs.Greedy.{wanted, greedy}
use Rattle.linear.specs.Extension.{extension}
use Rattle.linear.specs.Prices.{total}
use Rattle.linear.specs.Formulae.{first, formula, formulae, fewest, Formula, RankFormula}
use Rattle.linear.specs.laws.Span.{span_bind, span_weak, span_head}
use Rattle.linear.proofs.laws.Insert.{insert_reduced, insert_span, basis_of_reduced, basis_of_span}
use Rattle.linear.proofs.laws.Order.{before_asym, rising_mem}
use Rattle.linear.proofs.laws.Entry.{inside_yes, yes_inside, entries_sound, entries_shape, entries_ordered}
use Rattle.linear.proofs.laws.Greedy.{wanted_passes, wanted_new, wanted_no, wanted_true, wanted_false, greedy_rising}
use Rattle.linear.proofs.laws.Extension.{entries_greedy}
use Rattle.linear.proofs.laws.Exchange.{insert_in}
use Rattle.linear.proofs.laws.Formulae.{first_some, formulae_are, formulae_ordered, first_formula_law}
use Rattle.linear.proofs.laws.Fewest.{fewest_formula}

-- of two lists of one length, the one that begins with a number below the other's bound stands before it
rising_after : (i hi : ℕ) (es fs : List ℕ) → length fs ≡ suc (length es) → Rising (suc i) hi fs → Before (i ∷ es) fs
rising_after i hi es [] l r = absurd (omega arith)
rising_after i hi es (f ∷ fs) l r = inl r.0

never_after : (i hi : ℕ) (es fs : List ℕ) → length fs ≡ suc (length es) → Rising (suc i) hi fs → ¬ Before fs (i ∷ es)
never_after i hi es fs l r b = before_asym fs (i ∷ es) b (rising_after i hi es fs l r)

module _ (S : Space) (gens : List S.Vec) where
  open S use {Vec}

  abbrev gen : ℕ → Vec
  gen j = generator S gens j

  -- the choice from C on, with what is done of the number i
  abbrev step : (ℕ → Bool) → List Vec → ℕ → ℕ → Bool → List ℕ
  step ok C n i t = cond t (i ∷ greedy S gens ok (cond t (insert S C (gen i)) C) n (suc i)) (greedy S gens ok (cond t (insert S C (gen i)) C) n (suc i))

  module _ (W₁ W₂ : List Vec) (ρ₁ : Reduced S W₁) (ρ₂ : Reduced S W₂) where
    abbrev in₁ : ℕ → Bool
    in₁ j = inside S W₁ (gen j)

    abbrev in₂ : ℕ → Bool
    in₂ j = inside S W₂ (gen j)

    pub greedy_before : (n i hi : ℕ) (C D : List Vec) → i + n ≡ hi → Reduced S C → Reduced S D → Within S D C → Within S C W₁ → Within S C W₂
        → length (greedy S gens in₁ C n i) ≡ length (greedy S gens in₂ C n i) → length (greedy S gens in₁ D n i) ≡ length (greedy S gens in₂ D n i)
        → Before (greedy S gens in₁ C n i) (greedy S gens in₂ C n i) → Before (greedy S gens in₁ D n i) (greedy S gens in₂ D n i)
    unfolding greedy
    greedy_before zero i hi C D q σ τ d w₁ w₂ l m b = b
    greedy_before (suc n) i hi C D q σ τ d w₁ w₂ l m b =
        go (wanted S gens in₁ C i) refl (wanted S gens in₂ C i) refl l b (λ C' D'. greedy_before n (suc i) hi C' D' (omega arith)) m
      where
        g : Vec
        g = gen i

        rises : (ok : ℕ → Bool) (E : List Vec) → Rising (suc i) hi (greedy S gens ok E n (suc i))
        rises ok E = greedy_rising S gens ok n (suc i) hi E (omega arith)

        -- what is to be shown, by what is done of i from D
        Follows : Bool → Bool → Type 0
        Follows u₁ u₂ = length (step in₁ D n i u₁) ≡ length (step in₂ D n i u₂) → Before (step in₁ D n i u₁) (step in₂ D n i u₂)

        at : (u₁ u₂ : Bool) → wanted S gens in₁ D i ≡ u₁ → wanted S gens in₂ D i ≡ u₂ → Follows u₁ u₂ → Follows (wanted S gens in₁ D i) (wanted S gens in₂ D i)
        at u₁ u₂ c e h = subst (λ x. Follows x (wanted S gens in₂ D i)) (sym c) (subst (Follows u₁) (sym e) h)

        both : (xs ys : List ℕ) → Before (i ∷ xs) (i ∷ ys) → Before xs ys
        both xs ys (inl h) = absurd (omega arith)
        both xs ys (inr h) = h.1

        grown : (E : List Vec) → Within S C E → Span S E g → Within S (insert S C g) E
        grown E w s = insert_in S C g E w s

        go : (t₁ : Bool) → wanted S gens in₁ C i ≡ t₁ → (t₂ : Bool) → wanted S gens in₂ C i ≡ t₂ → length (step in₁ C n i t₁) ≡ length (step in₂ C n i t₂)
            → Before (step in₁ C n i t₁) (step in₂ C n i t₂)
            → ((C' D' : List Vec) → Reduced S C' → Reduced S D' → Within S D' C' → Within S C' W₁ → Within S C' W₂
            → length (greedy S gens in₁ C' n (suc i)) ≡ length (greedy S gens in₂ C' n (suc i))
            → length (greedy S gens in₁ D' n (suc i)) ≡ length (greedy S gens in₂ D' n (suc i))
            → Before (greedy S gens in₁ C' n (suc i)) (greedy S gens in₂ C' n (suc i))
            → Before (greedy S gens in₁ D' n (suc i)) (greedy S gens in₂ D' n (suc i)))
            → Follows (wanted S gens in₁ D i) (wanted S gens in₂ D i)
        go true a true b l h ih =
            let p₁ = wanted_passes S gens in₁ C i a in
            let p₂ = wanted_passes S gens in₂ C i b in
            let k : ¬ Span S D g = (λ s. wanted_new S gens in₁ C σ i a (d g s)) in
            let C' = insert S C g in
            at true true (wanted_true S gens in₁ D i p₁ k) (wanted_true S gens in₂ D i p₂ k)
            (λ m. inr (
              refl,
              ih C' (insert S D g) (insert_reduced S C g σ) (insert_reduced S D g τ)
                  (insert_in S D g C' (λ v s. (insert_span S C g v).1 (span_weak S (d v s))) ((insert_span S C g g).1 (span_head S g C)))
                  (grown W₁ w₁ (inside_yes S W₁ g p₁)) (grown W₂ w₂ (inside_yes S W₂ g p₂)) (suc_inj l) (suc_inj m)
                  (both (greedy S gens in₁ C' n (suc i)) (greedy S gens in₂ C' n (suc i)) h),
            ))
        go true a false b l h ih =
            let k : ¬ Span S C g = wanted_new S gens in₁ C σ i a in
            at true false (wanted_true S gens in₁ D i (wanted_passes S gens in₁ C i a) (λ s. k (d g s)))
            (wanted_false S gens in₂ D τ i (λ p. absurd (k (wanted_no S gens in₂ C i b p))))
            (λ m. rising_after i hi (greedy S gens in₁ (insert S D g) n (suc i)) (greedy S gens in₂ D n (suc i)) (sym m) (rises in₂ D))
        go false a true b l h ih = λ m. absurd
            (never_after i hi (greedy S gens in₂ (insert S C g) n (suc i)) (greedy S gens in₁ C n (suc i)) l (rises in₁ C) h)
        go false a false b l h ih = same (wanted S gens in₁ D i) refl
          where
            same : (u : Bool) → wanted S gens in₁ D i ≡ u → Follows (wanted S gens in₁ D i) (wanted S gens in₂ D i)
            same true c =
                let s = wanted_no S gens in₁ C i a (wanted_passes S gens in₁ D i c) in
                at true true c (wanted_true S gens in₂ D i (yes_inside S W₂ ρ₂ g (w₂ g s)) (wanted_new S gens in₁ D τ i c))
                (λ m. inr (refl, ih C (insert S D g) σ (insert_reduced S D g τ) (insert_in S D g C d s) w₁ w₂ l (suc_inj m) h))
            same false c =
                at false false c
                (wanted_false S gens in₂ D τ i (λ p. wanted_no S gens in₁ D i c (yes_inside S W₁ ρ₁ g (w₁ g (wanted_no S gens in₂ C i b p)))))
                (λ m. ih C D σ τ d w₁ w₂ l m h)

  module _ (targets : List Vec) where
    -- the first formula of an entry
    abbrev first_of : List ℕ → List ℕ
    first_of es = extension S gens [] (space S gens targets es)

    pub first_is : (k : ℕ) (es : List ℕ) → Memᴰ es (entries S gens targets k) → Formula S gens (space S gens targets es) (first_of es)
    first_is k es m =
        let W = space S gens targets es in
        let E = entries_sound S gens targets k es m in
        let r = first_some (formulae S gens W) (first_of es) (first_formula_law S gens targets k W E) in
        (formulae_are S gens W E.reduced (first_of es)).0 (subst (Memᴰ (first_of es)) (sym r.1) (Memᴰ.head refl))

    -- the first formulae of entries stand in the order of the entries
    pub formulae_before : (k : ℕ) (es fs : List ℕ) → Memᴰ es (entries S gens targets k) → Memᴰ fs (entries S gens targets k) → Before es fs
        → Before (first_of es) (first_of fs)
    formulae_before k es fs m n b =
        let W = space S gens targets es in
        let X = space S gens targets fs in
        let E = entries_sound S gens targets k es m in
        let F = entries_sound S gens targets k fs n in
        let e : extension S gens targets W ≡ es = entries_greedy S gens targets k es m in
        let f : extension S gens targets X ≡ fs = entries_greedy S gens targets k fs n in
        let b' : Before (extension S gens targets W) (extension S gens targets X) =
        subst (λ x. Before x (extension S gens targets X)) (sym e) (subst (Before es) (sym f) b) in
        let l : length (extension S gens targets W) ≡ length (extension S gens targets X) =
        ap length e ∙ (entries_shape S gens targets k es m).0 ∙ sym (entries_shape S gens targets k fs n).0 ∙ sym (ap length f) in
        let o : length (first_of es) ≡ length (first_of fs) = (first_is k es m).number ∙ E.size ∙ sym F.size ∙ sym (first_is k fs n).number in
        scan W X E F l o b'
      where
        scan : (W X : List Vec) → Solution S gens targets k W → Solution S gens targets k X
            → length (extension S gens targets W) ≡ length (extension S gens targets X) → length (extension S gens [] W) ≡ length (extension S gens [] X)
            → Before (extension S gens targets W) (extension S gens targets X) → Before (extension S gens [] W) (extension S gens [] X)
        scan W X E F l o b = unfold extension in
            greedy_before W X E.reduced F.reduced (length gens) 0 (length gens) (basis_of S targets) (basis_of S []) (omega arith)
            (basis_of_reduced S targets) (basis_of_reduced S []) (λ v s. span_bind S (λ x q. absurd (Memᴰ.not-nil q)) ((basis_of_span S [] v).0 s))
            (λ v s. span_bind S E.holds ((basis_of_span S targets v).0 s)) (λ v s. span_bind S F.holds ((basis_of_span S targets v).0 s)) l o b

-- ---- where all generators cost the same
total_even : (prices : List ℕ) (n : ℕ) → ((i j : ℕ) → i < n → j < n → get_or prices i 0 ≡ get_or prices j 0) → (es fs : List ℕ) → length es ≡ length fs
    → ((e : ℕ) → Memᴰ e es → e < n) → ((f : ℕ) → Memᴰ f fs → f < n) → total prices es ≡ total prices fs
unfolding total
total_even prices n c [] [] l h k = refl
total_even prices n c [] (f ∷ fs) l h k = absurd (omega arith)
total_even prices n c (e ∷ es) [] l h k = absurd (omega arith)
total_even prices n c (e ∷ es) (f ∷ fs) l h k =
    ap₂ ◌+◌ (c e f (h e (Memᴰ.head refl)) (k f (Memᴰ.head refl)))
    (total_even prices n c es fs (suc_inj l) (λ x m. h x (Memᴰ.tail m)) (λ x m. k x (Memᴰ.tail m)))

module _ (S : Space) (gens targets : List S.Vec) (prices : List ℕ)
    (even : (i j : ℕ) → i < length gens → j < length gens → get_or prices i 0 ≡ get_or prices j 0) where
  pub equal_prices : (fs : List ℕ) → fewest S gens targets prices ≡ formula fs
      → (es : List ℕ) × (first (entries S gens targets (length fs)) ≡ Some es) × (first (formulae S gens (space S gens targets es)) ≡ Some fs)
  equal_prices fs q = at (entries S gens targets (length fs)) refl
    where
      R : RankFormula S gens targets prices fs
      R = fewest_formula S gens targets prices fs q

      -- the first formula of an entry is no earlier
      after : (es : List ℕ) → Memᴰ es (entries S gens targets (length fs)) → (fs ≡ first_of S gens targets es) ⊎ Before fs (first_of S gens targets es)
      after es m =
          let x = first_of S gens targets es in
          let E = entries_sound S gens targets (length fs) es m in
          let F = first_is S gens targets (length fs) es m in
          let l : length x ≡ length fs = F.number ∙ E.size in
          R.first_of_equals x F.rising l (λ t n. F.spanning.1 t (E.holds t n))
          (total_even prices (length gens) even x fs l (λ e n. (rising_mem 0 (length gens) x F.rising e n).1)
          (λ e n. (rising_mem 0 (length gens) fs R.rising e n).1))

      -- in its own entry what is said is the first formula
      own : fs ≡ first_of S gens targets R.entry
      own =
          let W = space S gens targets R.entry in
          let E = entries_sound S gens targets (length fs) R.entry R.an_entry in
          let x = first_of S gens targets R.entry in
          let r = first_some (formulae S gens W) x (first_formula_law S gens targets (length fs) W E) in
          let o = subst (Ordered Before) r.1 (formulae_ordered S gens W) in
          clash (after R.entry R.an_entry) (Memᴰ.cases_cons (subst (Memᴰ fs) r.1 R.formula_of_law)) (λ m. o.0 fs m)
        where
          clash : {x : List ℕ} {l : List (List ℕ)} → (fs ≡ x) ⊎ Before fs x → (fs ≡ x) ⊎ Memᴰ fs l → (Memᴰ fs l → Before x fs) → fs ≡ x
          clash (inl e) m o = e
          clash (inr b) (inl e) o = e
          clash {x} (inr b) (inr m) o = absurd (before_asym fs x b (o m))

      at : (l : List (List ℕ)) → entries S gens targets (length fs) ≡ l
          → (es : List ℕ) × (first (entries S gens targets (length fs)) ≡ Some es) × (first (formulae S gens (space S gens targets es)) ≡ Some fs)
      at [] e = absurd (Memᴰ.not-nil (subst (Memᴰ R.entry) e R.an_entry))
      at (es ∷ l) e = (
        es,
        ap first e,
        first_formula_law S gens targets (length fs) (space S gens targets es) (entries_sound S gens targets (length fs) es m)
            ∙ ap Some (ap (first_of S gens targets) same ∙ sym own),
      )
        where
          m : Memᴰ es (entries S gens targets (length fs))
          m = subst (Memᴰ es) (sym e) (Memᴰ.head refl)

          -- an entry after the first has its first formula after the first's
          late : Memᴰ R.entry l → ⊥
          late n =
              let o = subst (Ordered Before) e (entries_ordered S gens targets (length fs)) in
              let b : Before (first_of S gens targets es) fs =
              subst (Before (first_of S gens targets es)) (sym own)
              (formulae_before S gens targets (length fs) es R.entry m R.an_entry (o.0 R.entry n)) in
              no_less b (after es m)
            where
              no_less : Before (first_of S gens targets es) fs → (fs ≡ first_of S gens targets es) ⊎ Before fs (first_of S gens targets es) → ⊥
              no_less b (inl p) = let c = subst (λ x. Before x fs) (sym p) b in before_asym fs fs c c
              no_less b (inr c) = before_asym fs (first_of S gens targets es) c b

          same : es ≡ R.entry
          same = ⊎_elim (λ (p : R.entry ≡ es). sym p) (λ n. absurd (late n)) (Memᴰ.cases_cons (subst (Memᴰ R.entry) e R.an_entry))
