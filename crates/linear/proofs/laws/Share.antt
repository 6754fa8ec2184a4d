-- The shares of the residues in the generators of a larger space.
--   add_back, norm_two             over a field of two elements: x + (x + u) is u, and what is not 0 leads with 1
--   less_new                       what is new over more is new over less
--   over_append, over_gather       joined lists bring in no more than each by itself, summed up
--   over_sub, over_some            a part brings in no more; what brings in something has a member
--   gather_mem, gather_from        the members of joined lists are those of each
--   alike_mem, mem_alike           the members of `alike`
--   pigeon                         some member has at least its part of a total
--   others_count                   a list of n vectors has 2 ^ n - 1 nonempty sublists
-- Assumes nothing.
use Rattle.std.specs.Prelude.{◌≡◌, refl, ◌≢◌, ◌⊎◌, Bool, true, false, cond, ℕ, suc, ◌+◌, ◌*◌, ◌^◌, ◌<◌, ◌≤◌}
use Rattle.std.proofs.Math.Path.{sym, ap}
use Rattle.std.proofs.Common.{◌∙◌, inl, inr, suc-mul, mul-le-mul_left}
use mathlib.Core.List.Memᴰ
use mathlib.Core.List.{List, [], ◌∷◌, ◌++◌, map, Memᴰ}
use Rattle.std.proofs.Math.Nat.{pow-suc, pow-zero}
use native.Mathlib.Omega.{arith}
use Rattle.std.proofs.Math.Decide.{dec_lt}
use Rattle.std.proofs.Math.ListN.{length, length-append, length-map}
use Rattle.linear.specs.Space.{Space}
use Rattle.linear.specs.Span.{Span, Within}
use Rattle.linear.specs.Basis.{reduce, norm, insert, inserts, Reduced}
use Rattle.linear.specs.Select.{only}
use Rattle.linear.specs.Entry.{same_vec}
use Rattle.linear.specs.Share.{total, gather, Two, over, alike, others}
use Rattle.linear.specs.laws.Space.{one_scale, minus_add}
use Rattle.linear.specs.laws.Span.{mem_cons, span_mem, span_bind, span_mono, span_weak, span_head}
use Rattle.linear.proofs.laws.Reduce.{member}
use Rattle.linear.proofs.laws.Insert.{dec_nul, insert_old, insert_reduced, insert_span, insert_length_new, inserts_reduced, inserts_span}
use Rattle.linear.proofs.laws.Dimension.{sub_length}
use Rattle.linear.proofs.laws.Select.{only_mem, mem_only}
use Rattle.linear.proofs.laws.Entry.{same_vec_yes, same_vec_no}
use Rattle.linear.proofs.laws.Greedy.{inserts_within}
use Rattle.linear.proofs.laws.Extension.{inserts_append}

-- ---- sums over lists
pub gather_mem : {A B : Type 0} (f : A → List B) (b : B) (l : List A) (a : A) → Memᴰ a l → Memᴰ b (f a) → Memᴰ b (gather f l)
unfolding gather
gather_mem f b [] = λ a m. absurd (Memᴰ.not-nil m)
gather_mem f b (u ∷ l) =
    mem_cons {P = λ a. Memᴰ b (f a) → Memᴰ b (f u ++ gather f l)} (λ k. Memᴰ.append_left (gather f l) k) (λ a m k. Memᴰ.append_right (f u)
    (gather_mem f b l a m k))

pub gather_from : {A B : Type 0} (f : A → List B) (b : B) (l : List A) → Memᴰ b (gather f l) → (a : A) × Memᴰ a l × Memᴰ b (f a)
unfolding gather
gather_from f b [] m = absurd (Memᴰ.not-nil m)
gather_from {A} f b (u ∷ l) m = go (Memᴰ.append_cases (f u) m) (gather_from f b l)
  where
    go : Memᴰ b (f u) ⊎ Memᴰ b (gather f l) → (Memᴰ b (gather f l) → (a : A) × Memᴰ a l × Memᴰ b (f a))
        → (a : A) × Memᴰ a (u ∷ l) × Memᴰ b (f a)
    go (inl k) ih = (u, Memᴰ.head refl, k)
    go (inr k) ih = let r = ih k in (r.0, Memᴰ.tail r.1, r.2)

pub only_length : {A : Type 0} (p : A → Bool) (l : List A) → length (only p l) ≤ length l
unfolding only
only_length p [] = omega arith
only_length p (u ∷ l) = go (p u) (only_length p l)
  where
    go : (t : Bool) → length (only p l) ≤ length l → length (cond t (u ∷ only p l) (only p l)) ≤ suc (length l)
    go true h = omega arith
    go false h = omega arith

-- some member has at least its part of a total
pub pigeon : {A : Type 0} (f : A → ℕ) (l : List A) → (total f l ≡ 0) ⊎ ((u : A) × Memᴰ u l × (total f l ≤ length l * f u))
unfolding total
pigeon f [] = inl refl
pigeon {A} f (x ∷ l) = inr (go (pigeon f l))
  where
    n : ℕ
    n = length l

    pick : (u : A) → Memᴰ u l → total f l ≤ n * f u → Dec (f u < f x) → (v : A) × Memᴰ v (x ∷ l) × (f x + total f l ≤ suc n * f v)
    pick u m h (yes a) =
        let k : n * f u ≤ n * f x = mul-le-mul_left n (let z : f u ≤ f x = omega arith in z) in
        (x, Memᴰ.head refl, omega (arith, h, k, suc-mul n (f x)))
    pick u m h (no a) = (u, Memᴰ.tail m, omega (arith, h, a, suc-mul n (f u)))

    go : (total f l ≡ 0) ⊎ ((u : A) × Memᴰ u l × (total f l ≤ n * f u)) → (v : A) × Memᴰ v (x ∷ l) × (f x + total f l ≤ suc n * f v)
    go (inl e) = (x, Memᴰ.head refl, omega (arith, e, suc-mul n (f x)))
    go (inr (u, m, h)) = pick u m h (dec_lt (f u) (f x))

-- ---- dimensions that a list brings in
module _ (S : Space) where
  open S use {Vec, nul}

  insert_mono : (X Y : List Vec) (p : Vec) → Within S X Y → Within S (insert S X p) (insert S Y p)
  insert_mono X Y p h v s =
      (insert_span S Y p v).1 (span_bind S (mem_cons {P = Span S (p ∷ Y)} (span_head S p Y) (λ x m. span_weak S (h x (span_mem S m))))
      ((insert_span S X p v).0 s))

  pub less_new : (part X Y : List Vec) → Reduced S X → Reduced S Y → Within S X Y
      → length (inserts S Y part) + length X ≤ length (inserts S X part) + length Y
  unfolding inserts
  less_new [] X Y ρ σ h = omega arith
  less_new (p ∷ part) X Y ρ σ h =
      go (dec_nul S (reduce S X p)) (dec_nul S (reduce S Y p)) (less_new part (insert S X p) (insert S Y p) (insert_reduced S X p ρ) (insert_reduced S Y p σ)
      (insert_mono X Y p h))
    where
      go : Dec (reduce S X p ≡ nul) → Dec (reduce S Y p ≡ nul)
          → length (inserts S (insert S Y p) part) + length (insert S X p) ≤ length (inserts S (insert S X p) part) + length (insert S Y p)
          → length (inserts S (insert S Y p) part) + length X ≤ length (inserts S (insert S X p) part) + length Y
      go (yes a) (yes b) k = omega (arith, k, ap length (insert_old S X p a), ap length (insert_old S Y p b))
      go (yes a) (no b) k = absurd (b ((member S Y σ p).0 (h p ((member S X ρ p).1 a))))
      go (no a) (yes b) k = omega (arith, k, insert_length_new S X p a, ap length (insert_old S Y p b))
      go (no a) (no b) k = omega (arith, k, insert_length_new S X p a, insert_length_new S Y p b)

  module _ (B : List Vec) (ρ : Reduced S B) where
    pub inserts_grow : (part : List Vec) → length B ≤ length (inserts S B part)
    inserts_grow part = sub_length S (inserts S B part) B ρ (inserts_reduced S part B ρ) (inserts_within S [] part B)

    pub over_append : (p q : List Vec) → over S B (p ++ q) ≤ over S B p + over S B q
    unfolding over
    over_append p q =
        omega (
          arith,
          ap length (inserts_append S [] [] p q B),
          less_new q B (inserts S B p) ρ (inserts_reduced S p B ρ)
              (inserts_within S [] p B),
          inserts_grow p,
          inserts_grow q,
        )

    pub over_gather : {A : Type 0} (f : A → List Vec) (l : List A) → over S B (gather f l) ≤ total (λ u. over S B (f u)) l
    unfolding gather total
    over_gather f [] = unfold over inserts in omega arith
    over_gather f (u ∷ l) = omega (arith, over_append (f u) (gather f l), over_gather f l)

    pub over_sub : (p q : List Vec) → ((g : Vec) → Memᴰ g p → Memᴰ g q) → over S B p ≤ over S B q
    unfolding over
    over_sub p q h =
        omega (
          arith,
          sub_length S (inserts S B q) (inserts S B p) (inserts_reduced S p B ρ) (inserts_reduced S q B ρ)
              (λ v s. (inserts_span S q B v).1 (span_mono S (λ g m. up g (Memᴰ.append_cases p m)) ((inserts_span S p B v).0 s))),
        )
      where
        up : (g : Vec) → Memᴰ g p ⊎ Memᴰ g B → Memᴰ g (q ++ B)
        up g (inl m) = Memᴰ.append_left B (h g m)
        up g (inr m) = Memᴰ.append_right q m

  pub over_some : (B part : List Vec) → 0 < over S B part → (g : Vec) × Memᴰ g part
  unfolding over inserts
  over_some B [] h = absurd (omega arith)
  over_some B (g ∷ part) h = (g, Memᴰ.head refl)

  -- ---- generators by their residue
  pub alike_mem : (C gs : List Vec) (y g : Vec) → Memᴰ g (alike S C y gs) → Memᴰ g gs × (reduce S C g ≡ y)
  unfolding alike
  alike_mem C gs y g m = let r = only_mem (λ g. same_vec S (reduce S C g) y) gs g m in (r.0, same_vec_yes S (reduce S C g) y r.1)

  pub same_vec_law : (u v : Vec) → u ≡ v → same_vec S u v ≡ true
  same_vec_law u v e = go (same_vec S u v) refl
    where
      go : (t : Bool) → same_vec S u v ≡ t → same_vec S u v ≡ true
      go true q = q
      go false q = absurd (same_vec_no S u v q e)

  pub mem_alike : (C gs : List Vec) (y g : Vec) → Memᴰ g gs → reduce S C g ≡ y → Memᴰ g (alike S C y gs)
  unfolding alike
  mem_alike C gs y g m e = mem_only (λ g. same_vec S (reduce S C g) y) gs g m (same_vec_law (reduce S C g) y e)

  -- ---- sums of sublists
  pub others_count : (xs : List Vec) → length (others S xs) + 1 ≡ 2 ^ length xs
  unfolding others
  others_count [] = omega (arith, pow-zero 2)
  others_count (x ∷ xs) =
      omega (
        arith,
        length-append (others S xs) (x ∷ map (S.add x) (others S xs)),
        length-map (others S xs) (S.add x),
        others_count xs,
        pow-suc 2
            (length xs),
      )

-- ---- two elements
module _ (S : Space) (two : Two S) where
  open S use {fld, Vec, nul, add, scale, coord, lead, is_nul, lead_ne, is_nul_yes, is_nul_no}
  open fld use {K, 𝟘, 𝟙, plus, neg, inv, plus_zero, plus_neg, times_one, inv_times, one_ne_zero}

  neg_one : neg 𝟙 ≡ 𝟙
  neg_one = go (two (neg 𝟙))
    where
      go : (neg 𝟙 ≡ 𝟘) ⊎ (neg 𝟙 ≡ 𝟙) → neg 𝟙 ≡ 𝟙
      go (inl e) = absurd (one_ne_zero (sym (plus_zero 𝟙) ∙ ap (plus 𝟙) (sym e) ∙ plus_neg 𝟙))
      go (inr e) = e

  pub norm_two : (v : Vec) → v ≢ nul → norm S v ≡ v
  unfolding norm
  norm_two v h = go (two (coord v (lead v)))
    where
      go : (coord v (lead v) ≡ 𝟘) ⊎ (coord v (lead v) ≡ 𝟙) → scale (inv (coord v (lead v))) v ≡ v
      go (inl e) = absurd (lead_ne v h e)
      go (inr e) = ap (λ a. scale a v) (ap inv e ∙ sym (times_one (inv 𝟙)) ∙ inv_times 𝟙 one_ne_zero) ∙ one_scale S v

  pub add_back : (x u : Vec) → add x (add x u) ≡ u
  add_back x u = ap (λ y. add y (add x u)) (sym (ap (λ a. scale a x) neg_one ∙ one_scale S x)) ∙ minus_add S x u
