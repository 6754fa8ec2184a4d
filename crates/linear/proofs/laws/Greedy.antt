-- The greedy choice: of the numbers in order, each that passes a test and whose generator is not yet in the span of what is taken.
-- It is the choice along the list of these numbers (`greedy_along`). Of the choice along any list: each number is one of the list and passes (`along_mem`),
-- the generators are new over C (`along_fresh`), and all that pass are in the span (`along_covers`).
-- It rises (`greedy_rising`), each number passes (`greedy_passes`), it is independent of C (`greedy_fresh`), spans what the generators of the numbers that pass
-- span (`greedy_covers`, `greedy_skip`), and no other such list of its length stands before it (`greedy_first`). Tests that agree
-- choose alike (`greedy_agree`, `greedy_same`); new generators are all taken, where no other number passes (`greedy_own`). Assumes nothing.
use Rattle.std.specs.Prelude.{◌≡◌, ◌⊎◌, ◌↔◌, ◌&&◌, length}
use Rattle.std.proofs.Math.Path.{refl, ap, ap₂}
use Rattle.std.proofs.Common.{sym, ◌∙◌, subst, inr, true≢false}
use Rattle.std.proofs.Math.Logic.{inl}
use Rattle.std.proofs.Math.Bool.{Bool, true, false, cond, not, false≢true, and-eq-true_iff}
use mathlib.Core.List.{List, [], ◌∷◌, ◌++◌, nil≢cons, head-eq_of_cons-eq, tail-eq_of_cons-eq}
use mathlib.Core.List.Memᴰ
use mathlib.Core.List.{Memᴰ}
use Prim.Native.Nat.{ℕ, zero, suc, ◌+◌, ◌<◌, ◌≤◌}
use Rattle.std.proofs.Math.Nat.{suc_inj}
use native.Mathlib.Omega.{arith}
use Rattle.std.proofs.Math.Decide.{ℕ_discrete}
use Rattle.linear.specs.Space.{Space}
use Rattle.linear.specs.Span.{Span, Within}
use Rattle.linear.specs.Basis.{insert, inserts, Reduced}
use Rattle.linear.specs.Order.{Before, Rising}
use Rattle.linear.specs.Entry.{inside, generator, chosen}
use Rattle.linear.specs.laws.Span.{mem_cons, span_mono, span_weak, span_head}
use Rattle.linear.proofs.laws.Insert.{insert_reduced, insert_span, inserts_span}
use Rattle.linear.proofs.laws.Dimension.{Fresh, fresh_sub}
use Rattle.linear.proofs.laws.Order.{rising_from, rising_mem}
use Rattle.linear.proofs.laws.Entry.{inside_yes, yes_inside, no_inside}
use Rattle.linear.specs.Greedy.{wanted, greedy}
use Rattle.linear.specs.Prices.{along}

-- the numbers i, .., i + n - 1
unfoldable pub numbers_from : ℕ → ℕ → List ℕ
numbers_from zero i = []
numbers_from (suc n) i = i ∷ numbers_from n (suc i)

numbers_from_mem : (n i j : ℕ) → i ≤ j → j < i + n → Memᴰ j (numbers_from n i)
unfolding numbers_from
numbers_from_mem zero i j a b = absurd (omega arith)
numbers_from_mem (suc n) i j a b = go (ℕ_discrete j i) (λ k. numbers_from_mem n (suc i) j k (omega arith))
  where
    go : Dec (j ≡ i) → (suc i ≤ j → Memᴰ j (numbers_from n (suc i))) → Memᴰ j (i ∷ numbers_from n (suc i))
    go (yes e) ih = Memᴰ.head e
    go (no e) ih = Memᴰ.tail (ih (omega arith))

module _ (S : Space) (gens : List S.Vec) where
  open S use {Vec}

  abbrev gen : ℕ → Vec
  gen j = generator S gens j

  abbrev gens_at : List ℕ → List Vec
  gens_at es = chosen S gens es

  -- ---- what is wanted
  pub wanted_passes : (ok : ℕ → Bool) (C : List Vec) (i : ℕ) → wanted S gens ok C i ≡ true → ok i ≡ true
  unfolding wanted
  wanted_passes ok C i e = ((and-eq-true_iff (ok i) (not (inside S C (gen i)))).0 e).0

  pub wanted_new : (ok : ℕ → Bool) (C : List Vec) → Reduced S C → (i : ℕ) → wanted S gens ok C i ≡ true → ¬ Span S C (gen i)
  unfolding wanted
  wanted_new ok C σ i e s = false≢true (ap not (sym (yes_inside S C σ (gen i) s)) ∙ ((and-eq-true_iff (ok i) (not (inside S C (gen i)))).0 e).1)

  -- what passes and is not wanted is in the span
  pub wanted_no : (ok : ℕ → Bool) (C : List Vec) (i : ℕ) → wanted S gens ok C i ≡ false → ok i ≡ true → Span S C (gen i)
  unfolding wanted
  wanted_no ok C i e p = go (inside S C (gen i)) refl
    where
      go : (t : Bool) → inside S C (gen i) ≡ t → Span S C (gen i)
      go true q = inside_yes S C (gen i) q
      go false q = absurd (true≢false (ap₂ (λ a b. a && not b) (sym p) (sym q) ∙ e))

  pub wanted_true : (ok : ℕ → Bool) (C : List Vec) (i : ℕ) → ok i ≡ true → ¬ Span S C (gen i) → wanted S gens ok C i ≡ true
  unfolding wanted
  wanted_true ok C i p h = ap₂ (λ a b. a && not b) p (no_inside S C (gen i) h)

  pub wanted_false : (ok : ℕ → Bool) (C : List Vec) → Reduced S C → (i : ℕ) → (ok i ≡ true → Span S C (gen i)) → wanted S gens ok C i ≡ false
  unfolding wanted
  wanted_false ok C σ i h = go (ok i) refl
    where
      go : (t : Bool) → ok i ≡ t → t && not (inside S C (gen i)) ≡ false
      go true e = ap not (yes_inside S C σ (gen i) (h e))
      go false e = refl

  -- what is in the span of C stays there
  pub inserts_within : (xs C : List Vec) → Within S C (inserts S C xs)
  inserts_within xs C v s = (inserts_span S xs C v).1 (span_mono S (λ x m. Memᴰ.append_right xs m) s)

  insert_within : (C : List Vec) (g : Vec) → Within S C (insert S C g)
  insert_within C g v s = (insert_span S C g v).1 (span_weak S s)

  -- ---- what is taken along a list
  module _ (ok : ℕ → Bool) where
    -- the choice from C on, by whether j is wanted
    abbrev pub step_along : List Vec → ℕ → List ℕ → Bool → List ℕ
    step_along C j js t = cond t (j ∷ along S gens ok (cond t (insert S C (gen j)) C) js) (along S gens ok (cond t (insert S C (gen j)) C) js)

    pub along_mem : (js : List ℕ) (C : List Vec) (e : ℕ) → Memᴰ e (along S gens ok C js) → Memᴰ e js × (ok e ≡ true)
    unfolding along
    along_mem [] C = λ e m. absurd (Memᴰ.not-nil m)
    along_mem (j ∷ js) C = go (wanted S gens ok C j) refl (along_mem js)
      where
        go : (t : Bool) → wanted S gens ok C j ≡ t → ((D : List Vec) (e : ℕ) → Memᴰ e (along S gens ok D js) → Memᴰ e js × (ok e ≡ true))
            → (e : ℕ) → Memᴰ e (step_along C j js t) → Memᴰ e (j ∷ js) × (ok e ≡ true)
        go true q ih =
            mem_cons {P = λ e. Memᴰ e (j ∷ js) × (ok e ≡ true)} (Memᴰ.head refl, wanted_passes ok C j q)
            (λ e m. let r = ih (insert S C (gen j)) e m in (Memᴰ.tail r.0, r.1))
        go false q ih = λ e m. let r = ih C e m in (Memᴰ.tail r.0, r.1)

    pub along_fresh : (js : List ℕ) (C : List Vec) → Reduced S C → Fresh S C (gens_at (along S gens ok C js))
    unfolding along chosen
    along_fresh [] C ρ = tt
    along_fresh (j ∷ js) C ρ = go (wanted S gens ok C j) refl (along_fresh js)
      where
        go : (t : Bool) → wanted S gens ok C j ≡ t → ((D : List Vec) → Reduced S D → Fresh S D (gens_at (along S gens ok D js)))
            → Fresh S C (gens_at (step_along C j js t))
        go true q ih = (
          wanted_new ok C ρ j q,
          fresh_sub S (gens_at (along S gens ok (insert S C (gen j)) js)) (gen j ∷ C) (insert S C (gen j)) (λ v s. (insert_span S C (gen j) v).1 s)
              (ih (insert S C (gen j)) (insert_reduced S C (gen j) ρ)),
        )
        go false q ih = ih C ρ

    -- every generator that passes is in the span of what is taken
    pub along_covers : (js : List ℕ) (C : List Vec) (i : ℕ) → Memᴰ i js → ok i ≡ true → Span S (inserts S C (gens_at (along S gens ok C js))) (gen i)
    unfolding along chosen inserts
    along_covers [] C = λ i m. absurd (Memᴰ.not-nil m)
    along_covers (j ∷ js) C = go (wanted S gens ok C j) refl (along_covers js)
      where
        go : (t : Bool) → wanted S gens ok C j ≡ t
            → ((D : List Vec) (i : ℕ) → Memᴰ i js → ok i ≡ true → Span S (inserts S D (gens_at (along S gens ok D js))) (gen i))
            → (i : ℕ) → Memᴰ i (j ∷ js) → ok i ≡ true → Span S (inserts S C (gens_at (step_along C j js t))) (gen i)
        go true q ih =
            let D = insert S C (gen j) in
            mem_cons {P = λ i. ok i ≡ true → Span S (inserts S D (gens_at (along S gens ok D js))) (gen i)}
            (λ p. inserts_within (gens_at (along S gens ok D js)) D (gen j) ((insert_span S C (gen j) (gen j)).1 (span_head S (gen j) C))) (ih D)
        go false q ih =
            mem_cons {P = λ i. ok i ≡ true → Span S (inserts S C (gens_at (along S gens ok C js))) (gen i)}
            (λ p. inserts_within (gens_at (along S gens ok C js)) C (gen j) (wanted_no ok C j q p)) (ih C)

  -- ---- what is taken of the numbers in order
  module _ (ok : ℕ → Bool) where
    pub greedy_rising : (n i hi : ℕ) (C : List Vec) → i + n ≡ hi → Rising i hi (greedy S gens ok C n i)
    unfolding greedy
    greedy_rising zero i hi C q = tt
    greedy_rising (suc n) i hi C q = go (wanted S gens ok C i) (λ D. greedy_rising n (suc i) hi D (omega arith))
      where
        go : (t : Bool) → ((D : List Vec) → Rising (suc i) hi (greedy S gens ok D n (suc i)))
            → Rising i hi (cond t (i ∷ greedy S gens ok (cond t (insert S C (gen i)) C) n (suc i)) (greedy S gens ok (cond t (insert S C (gen i)) C) n (suc i)))
        go true ih = (omega arith, omega arith, ih (insert S C (gen i)))
        go false ih = rising_from i (suc i) hi (greedy S gens ok C n (suc i)) (omega arith) (ih C)

    pub greedy_along : (n i : ℕ) (C : List Vec) → greedy S gens ok C n i ≡ along S gens ok C (numbers_from n i)
    unfolding greedy along numbers_from
    greedy_along zero i C = refl
    greedy_along (suc n) i C =
        let t = wanted S gens ok C i in ap (λ (r : List ℕ). cond t (i ∷ r) r) (greedy_along n (suc i) (cond t (insert S C (gen i)) C))

    -- each number taken passes
    pub greedy_passes : (n i : ℕ) (C : List Vec) (e : ℕ) → Memᴰ e (greedy S gens ok C n i) → ok e ≡ true
    greedy_passes n i C e m = (along_mem ok (numbers_from n i) C e (subst (Memᴰ e) (greedy_along n i C) m)).1

    pub greedy_fresh : (n i : ℕ) (C : List Vec) → Reduced S C → Fresh S C (gens_at (greedy S gens ok C n i))
    greedy_fresh n i C σ = subst (λ es. Fresh S C (gens_at es)) (sym (greedy_along n i C)) (along_fresh ok (numbers_from n i) C σ)

    -- the generator of every number that passes is in the span of what is taken
    pub greedy_covers : (n i : ℕ) (C : List Vec) → (j : ℕ) → i ≤ j → j < i + n → ok j ≡ true → Span S (inserts S C (gens_at (greedy S gens ok C n i))) (gen j)
    greedy_covers n i C j a b s =
        subst (λ es. Span S (inserts S C (gens_at es)) (gen j)) (sym (greedy_along n i C))
        (along_covers ok (numbers_from n i) C j (numbers_from_mem n i j a b) s)

    -- no rising list of numbers that pass, with new generators and of that length, stands before it
    pub greedy_first : (n i hi : ℕ) (C : List Vec) → i + n ≡ hi → Reduced S C → (fs : List ℕ) → Rising i hi fs → Fresh S C (gens_at fs)
        → ((e : ℕ) → Memᴰ e fs → ok e ≡ true) → length (greedy S gens ok C n i) ≡ length fs
        → (greedy S gens ok C n i ≡ fs) ⊎ Before (greedy S gens ok C n i) fs
    unfolding greedy chosen
    greedy_first zero i hi C q σ [] r f h l = inl refl
    greedy_first zero i hi C q σ (e ∷ fs) r f h l = absurd (omega arith)
    greedy_first (suc n) i hi C q σ [] r f h l = go (wanted S gens ok C i) l (greedy_first n (suc i) hi C (omega arith) σ [] tt tt (λ x m. absurd
        (Memᴰ.not-nil m)))
      where
        gs : Bool → List ℕ
        gs t = cond t (i ∷ greedy S gens ok (cond t (insert S C (gen i)) C) n (suc i)) (greedy S gens ok (cond t (insert S C (gen i)) C) n (suc i))

        go : (t : Bool) → length (gs t) ≡ zero → (length (greedy S gens ok C n (suc i)) ≡ zero
            → (greedy S gens ok C n (suc i) ≡ []) ⊎ Before (greedy S gens ok C n (suc i)) [])
            → (gs t ≡ []) ⊎ Before (gs t) []
        go true k ih = absurd (omega arith)
        go false k ih = ih k
    greedy_first (suc n) i hi C q σ (e ∷ fs) r f h l =
        go (wanted S gens ok C i) refl (ℕ_discrete e i) l
        (λ a b c. greedy_first n (suc i) hi (insert S C (gen i)) (omega arith) (insert_reduced S C (gen i) σ) fs a b (λ x m. h x (Memᴰ.tail m)) c)
        (λ a c. greedy_first n (suc i) hi C (omega arith) σ (e ∷ fs) a f h c)
      where
        gs : Bool → List ℕ
        gs t = cond t (i ∷ greedy S gens ok (cond t (insert S C (gen i)) C) n (suc i)) (greedy S gens ok (cond t (insert S C (gen i)) C) n (suc i))

        D : List Vec
        D = insert S C (gen i)

        join : e ≡ i → (greedy S gens ok D n (suc i) ≡ fs) ⊎ Before (greedy S gens ok D n (suc i)) fs → (gs true ≡ e ∷ fs) ⊎ Before (gs true) (e ∷ fs)
        join p (inl a) = inl (ap₂ ◌∷◌ (sym p) a)
        join p (inr b) = inr (inr (sym p, b))

        go : (t : Bool) → wanted S gens ok C i ≡ t → Dec (e ≡ i) → length (gs t) ≡ suc (length fs)
            → (Rising (suc i) hi fs → Fresh S D (gens_at fs) → length (greedy S gens ok D n (suc i)) ≡ length fs
            → (greedy S gens ok D n (suc i) ≡ fs) ⊎ Before (greedy S gens ok D n (suc i)) fs)
            → (Rising (suc i) hi (e ∷ fs) → length (greedy S gens ok C n (suc i)) ≡ suc (length fs)
            → (greedy S gens ok C n (suc i) ≡ e ∷ fs) ⊎ Before (greedy S gens ok C n (suc i)) (e ∷ fs))
            → (gs t ≡ e ∷ fs) ⊎ Before (gs t) (e ∷ fs)
        go true w (yes p) k ih₁ ih₂ =
            join p
            (ih₁ (subst (λ x. Rising (suc x) hi fs) p r.2)
            (fresh_sub S (gens_at fs) D (gen e ∷ C) (λ v s. subst (λ x. Span S (gen x ∷ C) v) (sym p) ((insert_span S C (gen i) v).0 s)) f.1) (suc_inj k))
        go true w (no p) k ih₁ ih₂ = inr (inl (let a : i ≤ e = r.0 in omega arith))
        go false w (yes p) k ih₁ ih₂ =
            absurd (f.0 (subst (λ x. Span S C (gen x)) (sym p) (wanted_no ok C i w (ap ok (sym p) ∙ h e (Memᴰ.head refl)))))
        go false w (no p) k ih₁ ih₂ = ih₂ (let a : i ≤ e = r.0 in omega arith, r.1, r.2) k

    -- the generator of a number that passes and is passed over is in the span of what was taken before
    pub greedy_skip : (n i : ℕ) (C : List Vec) (p : List ℕ) (e : ℕ) (r : List ℕ) → greedy S gens ok C n i ≡ p ++ e ∷ r
        → (j : ℕ) → i ≤ j → j < e → ¬ Memᴰ j p → ok j ≡ true → Span S (inserts S C (gens_at p)) (gen j)
    unfolding greedy chosen inserts
    greedy_skip zero i C [] e r q j a b m s = absurd (nil≢cons q)
    greedy_skip zero i C (x ∷ p) e r q j a b m s = absurd (nil≢cons q)
    greedy_skip (suc n) i C [] e r q j a b m s =
        go (wanted S gens ok C i) refl q (ℕ_discrete j i) (λ k d. greedy_skip n (suc i) C [] e r k j d b m s)
      where
        gs : Bool → List ℕ
        gs t = cond t (i ∷ greedy S gens ok (cond t (insert S C (gen i)) C) n (suc i)) (greedy S gens ok (cond t (insert S C (gen i)) C) n (suc i))

        go : (t : Bool) → wanted S gens ok C i ≡ t → gs t ≡ e ∷ r → Dec (j ≡ i) → (greedy S gens ok C n (suc i) ≡ e ∷ r → suc i ≤ j → Span S C (gen j))
            → Span S C (gen j)
        go true w k d ih = absurd (let z : i ≡ e = head-eq_of_cons-eq k in omega arith)
        go false w k (yes d) ih = subst (λ x. Span S C (gen x)) (sym d) (wanted_no ok C i w (ap ok (sym d) ∙ s))
        go false w k (no d) ih = ih k (omega arith)
    greedy_skip (suc n) i C (x ∷ p) e r q j a b m s =
        go (wanted S gens ok C i) refl q (ℕ_discrete j i)
        (λ k d. greedy_skip n (suc i) (insert S C (gen i)) p e r k j d b (λ o. m (Memᴰ.tail o)) s)
        (λ k d. greedy_skip n (suc i) C (x ∷ p) e r k j d b m s)
      where
        gs : Bool → List ℕ
        gs t = cond t (i ∷ greedy S gens ok (cond t (insert S C (gen i)) C) n (suc i)) (greedy S gens ok (cond t (insert S C (gen i)) C) n (suc i))

        go : (t : Bool) → wanted S gens ok C i ≡ t → gs t ≡ x ∷ (p ++ e ∷ r) → Dec (j ≡ i)
            → (greedy S gens ok (insert S C (gen i)) n (suc i) ≡ p ++ e ∷ r → suc i ≤ j → Span S (inserts S (insert S C (gen i)) (gens_at p)) (gen j))
            → (greedy S gens ok C n (suc i) ≡ x ∷ (p ++ e ∷ r) → suc i ≤ j → Span S (inserts S (insert S C (gen x)) (gens_at p)) (gen j))
            → Span S (inserts S (insert S C (gen x)) (gens_at p)) (gen j)
        go true w k (yes d) ih₁ ih₂ = absurd (m (Memᴰ.head (d ∙ head-eq_of_cons-eq k)))
        go true w k (no d) ih₁ ih₂ =
            subst (λ y. Span S (inserts S (insert S C (gen y)) (gens_at p)) (gen j)) (head-eq_of_cons-eq k) (ih₁ (tail-eq_of_cons-eq k) (omega arith))
        go false w k (yes d) ih₁ ih₂ =
            inserts_within (gens_at p) (insert S C (gen x)) (gen j)
            (insert_within C (gen x) (gen j) (subst (λ y. Span S C (gen y)) (sym d) (wanted_no ok C i w (ap ok (sym d) ∙ s))))
        go false w k (no d) ih₁ ih₂ = ih₂ k (omega arith)

    -- new generators are all taken, where no other number passes
    pub greedy_own : (n i hi : ℕ) (C : List Vec) → i + n ≡ hi → Reduced S C → (es : List ℕ) → Rising i hi es → Fresh S C (gens_at es)
        → ((j : ℕ) → i ≤ j → (ok j ≡ true) ↔ Memᴰ j es) → greedy S gens ok C n i ≡ es
    unfolding greedy chosen
    greedy_own zero i hi C q σ [] r f h = refl
    greedy_own zero i hi C q σ (e ∷ es) r f h = absurd (omega (arith, r.0, r.1))
    greedy_own (suc n) i hi C q σ [] r f h =
        ap (λ t. cond t (i ∷ greedy S gens ok (cond t (insert S C (gen i)) C) n (suc i)) (greedy S gens ok (cond t (insert S C (gen i)) C) n (suc i)))
        (wanted_false ok C σ i (λ p. absurd (Memᴰ.not-nil ((h i (omega arith)).0 p))))
        ∙ greedy_own n (suc i) hi C (omega arith) σ [] tt tt (λ j l. h j (omega arith))
    greedy_own (suc n) i hi C q σ (e ∷ es) r f h = go (ℕ_discrete e i)
        (λ a b c. greedy_own n (suc i) hi (insert S C (gen i)) (omega arith) (insert_reduced S C (gen i) σ) es a b c)
        (λ a. greedy_own n (suc i) hi C (omega arith) σ (e ∷ es) a f (λ j l. h j (omega arith)))
      where
        gs : Bool → List ℕ
        gs t = cond t (i ∷ greedy S gens ok (cond t (insert S C (gen i)) C) n (suc i)) (greedy S gens ok (cond t (insert S C (gen i)) C) n (suc i))

        D : List Vec
        D = insert S C (gen i)

        later : (j : ℕ) → e < j → (j ≡ e) ⊎ Memᴰ j es → Memᴰ j es
        later j l (inl p) = absurd (omega arith)
        later j l (inr m) = m

        go : Dec (e ≡ i)
            → (Rising (suc i) hi es → Fresh S D (gens_at es) → ((j : ℕ) → suc i ≤ j → (ok j ≡ true) ↔ Memᴰ j es) → greedy S gens ok D n (suc i) ≡ es)
            → (Rising (suc i) hi (e ∷ es) → greedy S gens ok C n (suc i) ≡ e ∷ es) → gs (wanted S gens ok C i) ≡ e ∷ es
        go (yes p) ih₁ ih₂ =
            ap gs (wanted_true ok C i (ap ok (sym p) ∙ (h e (omega arith)).1 (Memᴰ.head refl)) (λ s. f.0 (subst (λ x. Span S C (gen x)) (sym p) s)))
            ∙ ap₂ ◌∷◌ (sym p)
            (ih₁ (subst (λ x. Rising (suc x) hi es) p r.2)
            (fresh_sub S (gens_at es) D (gen e ∷ C) (λ v s. subst (λ x. Span S (gen x ∷ C) v) (sym p) ((insert_span S C (gen i) v).0 s)) f.1)
            (λ j l. (λ t. later j (omega arith) (Memᴰ.cases_cons ((h j (omega arith)).0 t)), λ m. (h j (omega arith)).1 (Memᴰ.tail m))))
        go (no p) ih₁ ih₂ =
            let a : i ≤ e = r.0 in
            let r' : Rising (suc i) hi (e ∷ es) = (omega arith, r.1, r.2) in
            ap gs (wanted_false ok C σ i (λ t. let b = (rising_mem (suc i) hi (e ∷ es) r' i ((h i (omega arith)).0 t)).0 in absurd (omega arith)))
            ∙ ih₂ r'

  -- tests that agree on the numbers scanned choose alike
  pub greedy_agree : (ok ok' : ℕ → Bool) (C : List Vec) (n i : ℕ) → ((j : ℕ) → i ≤ j → j < i + n → ok j ≡ ok' j)
      → greedy S gens ok C n i ≡ greedy S gens ok' C n i
  unfolding greedy wanted
  greedy_agree ok ok' C zero i h = refl
  greedy_agree ok ok' C (suc n) i h =
      ap (λ r. cond t (i ∷ r) r) (greedy_agree ok ok' (cond t D C) n (suc i) (λ j a b. h j (omega arith) (omega arith)))
      ∙ ap (λ u. cond u (i ∷ greedy S gens ok' (cond u D C) n (suc i)) (greedy S gens ok' (cond u D C) n (suc i)))
      (ap (λ a. a && not (inside S C (gen i))) (h i (omega arith) (omega arith)))
    where
      D : List Vec
      D = insert S C (gen i)

      t : Bool
      t = ok i && not (inside S C (gen i))

  pub greedy_same : (ok ok' : ℕ → Bool) (C : List Vec) (n i : ℕ) → ((j : ℕ) → ok j ≡ ok' j) → greedy S gens ok C n i ≡ greedy S gens ok' C n i
  greedy_same ok ok' C n i h = greedy_agree ok ok' C n i (λ j a b. h j)
