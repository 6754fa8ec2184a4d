-- Insertion keeps a basis reduced and spans exactly the new vector more; the basis of a list is reduced and spans the list.
--   insert_reduced, insert_span, insert_length_new   one vector: reduced, the span, and one row more where it is new
--   inserts_reduced, inserts_span                    several
--   basis_of_reduced, basis_of_span                    a list
--   dec_member, dec_span                               membership is decided
-- Assumes nothing.
use Rattle.std.specs.Prelude.{◌≡◌, ◌≢◌, ◌⊎◌, ◌↔◌, Bool}
use Rattle.std.proofs.Math.Path.{refl, ap, subst}
use Rattle.std.proofs.Common.{sym, ◌∙◌, inl, inr, arith, ltb-true, ltb-false}
use Rattle.std.proofs.Math.Bool.{true, false, cond}
use mathlib.Core.List.Memᴰ
use mathlib.Core.List.{List, [], ◌∷◌, ◌++◌, Memᴰ, append-nil}
use Prim.Native.Nat.{ℕ, suc, ◌<◌, ◌≤◌}
use Rattle.std.proofs.Math.Decide.{dec_lt}
use Rattle.std.proofs.Math.ListN.{length}
use Rattle.std.proofs.Math.Dec.{ltb}
use Rattle.linear.specs.Space.{Space}
use Rattle.linear.specs.Span.{Span}
use Rattle.linear.specs.Basis.{clear, reduce, norm, place, insert, inserts, basis_of, Zeroed, Reduced}
use Rattle.linear.specs.laws.Space.{times_zero, add_comm, add_nul, one_scale, scale_scale}
use Rattle.linear.specs.laws.Span.{mem_cons, cast, span_add, span_scale, span_mem, span_bind, span_mono, span_weak, span_head, span_cons, span_rest}
use Rattle.linear.proofs.laws.Reduce.{lead_unique, one_ne, clear_at, clear_keep, clear_back, reduce_rest, reduce_zeroed, member}

module _ (S : Space) where
  open S use {fld, Vec, nul, add, scale, coord, lead, is_nul, coord_nul, coord_add, coord_scale, ext, lead_above, lead_ne, is_nul_yes, is_nul_no}
  open fld use {K, 𝟘, 𝟙, plus, times, neg, inv, plus_zero, plus_neg, times_one, times_comm, inv_times, one_ne_zero}

  -- ---- place
  module _ (r : Vec) (one : coord r (lead r) ≡ 𝟙) where
    lead_clear : (b : Vec) → coord b (lead b) ≡ 𝟙 → lead r < lead b → lead (clear S r b) ≡ lead b
    lead_clear b o l =
        lead_unique S (clear S r b) (lead b) (one_ne S (clear_keep S r b (lead b) (lead_above r (lead b) l) ∙ o))
        (λ i h. clear_keep S r b i (lead_above r i (omega arith)) ∙ lead_above b i h)

    gap : (b : Vec) → ltb (lead b) (lead r) ≡ false → coord r (lead b) ≡ 𝟘 → lead r < lead b
    gap b e z = go (dec_lt (lead r) (lead b))
      where
        le : lead r ≤ lead b
        le = ltb-false (lead b) (lead r) e

        go : Dec (lead r < lead b) → lead r < lead b
        go (yes l) = l
        go (no n) = let q : lead r ≡ lead b = omega (arith, le, n) in absurd (one_ne S one (ap (coord r) q ∙ z))

    -- the leads of `place r B` are that of r and those of B
    pub place_leads : (P : ℕ → Type 0) (B : List Vec) → Reduced S B → Zeroed S r B → P (lead r) → ((b : Vec) → Memᴰ b B → P (lead b))
        → (x : Vec) → Memᴰ x (place S r B) → P (lead x)
    unfolding place
    place_leads P [] ρ z p h = mem_cons {P = λ x. P (lead x)} p (λ x m. absurd (Memᴰ.not-nil m))
    place_leads P (b ∷ B) ρ z p h =
        go (ltb (lead b) (lead r)) refl (place_leads P B ρ.3 (λ x m. z x (Memᴰ.tail m)) p (λ x m. h x (Memᴰ.tail m)))
      where
        go : (t : Bool) → ltb (lead b) (lead r) ≡ t → ((x : Vec) → Memᴰ x (place S r B) → P (lead x))
            → (x : Vec) → Memᴰ x (cond t (r ∷ b ∷ B) (clear S r b ∷ place S r B)) → P (lead x)
        go true e ih = mem_cons {P = λ x. P (lead x)} p h
        go false e ih =
            mem_cons {P = λ x. P (lead x)}
            (subst P (sym (lead_clear b ρ.0 (gap b e (z b (Memᴰ.head refl))))) (h b (Memᴰ.head refl))) ih

    pub place_reduced : (B : List Vec) → Reduced S B → Zeroed S r B → Reduced S (place S r B)
    unfolding place
    place_reduced [] ρ z = (one, λ x m. absurd (Memᴰ.not-nil m), z, tt)
    place_reduced (b ∷ B) ρ z = go (ltb (lead b) (lead r)) refl (place_reduced B ρ.3 (λ x m. z x (Memᴰ.tail m)))
      where
        z_b : Zeroed S r B
        z_b x m = z x (Memᴰ.tail m)

        rb : coord r (lead b) ≡ 𝟘
        rb = z b (Memᴰ.head refl)

        go : (t : Bool) → ltb (lead b) (lead r) ≡ t → Reduced S (place S r B) → Reduced S (cond t (r ∷ b ∷ B) (clear S r b ∷ place S r B))
        go true e ih =
            let l : lead b < lead r = ltb-true (lead b) (lead r) e in
            (one, mem_cons {P = λ x. lead x < lead r} l (λ x m. let k : lead x < lead b = ρ.1 x m in omega arith), z, ρ)
        go false e ih =
            let l : lead r < lead b = gap b e rb in
            let q : lead (clear S r b) ≡ lead b = lead_clear b ρ.0 l in (
              ap (coord (clear S r b)) q ∙ clear_keep S r b (lead b) rb ∙ ρ.0,
              place_leads (λ n. n < lead (clear S r b)) B ρ.3 z_b (omega arith) (λ x m. let k : lead x < lead b = ρ.1 x m in omega arith),
              place_leads (λ n. coord (clear S r b) n ≡ 𝟘) B ρ.3 z_b (clear_at S r b one) (λ x m. clear_keep S r b (lead x) (z_b x m) ∙ ρ.2 x m),
              ih,
            )

    place_in : (B : List Vec) (x : Vec) → Memᴰ x (place S r B) → Span S (r ∷ B) x
    unfolding place clear
    place_in [] = λ x m. span_mem S m
    place_in (b ∷ B) = go (ltb (lead b) (lead r)) (place_in B)
      where
        go : (t : Bool) → ((x : Vec) → Memᴰ x (place S r B) → Span S (r ∷ B) x)
            → (x : Vec) → Memᴰ x (cond t (r ∷ b ∷ B) (clear S r b ∷ place S r B)) → Span S (r ∷ b ∷ B) x
        go true ih = λ x m. span_mem S m
        go false ih =
            mem_cons {P = Span S (r ∷ b ∷ B)} (span_cons S (neg (coord b (lead r))) (span_head S b B))
            (λ x m. span_mono S (mem_cons {P = λ y. Memᴰ y (r ∷ b ∷ B)} (Memᴰ.head refl) (λ y k. Memᴰ.tail (Memᴰ.tail k))) (ih x m))

    place_out : (B : List Vec) (x : Vec) → Memᴰ x (r ∷ B) → Span S (place S r B) x
    unfolding place
    place_out [] = λ x m. span_mem S m
    place_out (b ∷ B) = go (ltb (lead b) (lead r)) (place_out B)
      where
        go : (t : Bool) → ((x : Vec) → Memᴰ x (r ∷ B) → Span S (place S r B) x)
            → (x : Vec) → Memᴰ x (r ∷ b ∷ B) → Span S (cond t (r ∷ b ∷ B) (clear S r b ∷ place S r B)) x
        go true ih = λ x m. span_mem S m
        go false ih =
            let hr : Span S (clear S r b ∷ place S r B) r = span_weak S (ih r (Memᴰ.head refl)) in
            mem_cons {P = Span S (clear S r b ∷ place S r B)} hr
            (mem_cons {P = Span S (clear S r b ∷ place S r B)}
            (cast S (clear_back S r b) (span_add S (span_scale S (coord b (lead r)) hr) (span_head S (clear S r b) (place S r B))))
            (λ x m. span_weak S (ih x (Memᴰ.tail m))))

    pub place_span : (B : List Vec) (v : Vec) → Span S (place S r B) v ↔ Span S (r ∷ B) v
    place_span B v = (λ s. span_bind S (place_in B) s, λ s. span_bind S (place_out B) s)

    pub place_length : (B : List Vec) → length (place S r B) ≡ suc (length B)
    unfolding place
    place_length [] = refl
    place_length (b ∷ B) = go (ltb (lead b) (lead r)) (place_length B)
      where
        go : (t : Bool) → length (place S r B) ≡ suc (length B) → length (cond t (r ∷ b ∷ B) (clear S r b ∷ place S r B)) ≡ suc (suc (length B))
        go true e = refl
        go false e = ap suc e

  -- ---- insert
  pub norm_at : (v : Vec) → v ≢ nul → coord (norm S v) (lead v) ≡ 𝟙
  unfolding norm
  norm_at v h = coord_scale (inv (coord v (lead v))) v (lead v) ∙ inv_times (coord v (lead v)) (lead_ne v h)

  pub norm_lead : (v : Vec) → v ≢ nul → lead (norm S v) ≡ lead v
  unfolding norm
  norm_lead v h =
      lead_unique S (norm S v) (lead v) (one_ne S (norm_at v h))
      (λ i g. coord_scale (inv (coord v (lead v))) v i ∙ ap (times (inv (coord v (lead v)))) (lead_above v i g) ∙ times_zero fld (inv (coord v (lead v))))

  pub norm_one : (v : Vec) → v ≢ nul → coord (norm S v) (lead (norm S v)) ≡ 𝟙
  norm_one v h = ap (coord (norm S v)) (norm_lead v h) ∙ norm_at v h

  pub norm_zeroed : (v : Vec) (B : List Vec) → Zeroed S v B → Zeroed S (norm S v) B
  unfolding norm
  norm_zeroed v B z x m =
      coord_scale (inv (coord v (lead v))) v (lead x) ∙ ap (times (inv (coord v (lead v)))) (z x m) ∙ times_zero fld (inv (coord v (lead v)))

  pub norm_back : (v : Vec) → v ≢ nul → scale (coord v (lead v)) (norm S v) ≡ v
  unfolding norm
  norm_back v h =
      scale_scale S (coord v (lead v)) (inv (coord v (lead v))) v
      ∙ ap (λ a. scale a v) (times_comm (coord v (lead v)) (inv (coord v (lead v))) ∙ inv_times (coord v (lead v)) (lead_ne v h)) ∙ one_scale S v

  pub is_nul_nul : is_nul nul ≡ true
  is_nul_nul = go (is_nul nul) refl
    where
      go : (t : Bool) → is_nul nul ≡ t → t ≡ true
      go true e = refl
      go false e = absurd (is_nul_no nul e refl)

  pub dec_nul : (v : Vec) → Dec (v ≡ nul)
  dec_nul v = go (is_nul v) refl
    where
      go : (t : Bool) → is_nul v ≡ t → Dec (v ≡ nul)
      go true e = yes (is_nul_yes v e)
      go false e = no (is_nul_no v e)

  pub insert_old : (B : List Vec) (v : Vec) → reduce S B v ≡ nul → insert S B v ≡ B
  unfolding insert
  insert_old B v e = ap (λ t. cond t B (place S (norm S (reduce S B v)) B)) (ap is_nul e ∙ is_nul_nul)

  pub insert_new : (B : List Vec) (v : Vec) → reduce S B v ≢ nul → insert S B v ≡ place S (norm S (reduce S B v)) B
  unfolding insert
  insert_new B v h = go (is_nul (reduce S B v)) refl
    where
      go : (t : Bool) → is_nul (reduce S B v) ≡ t → cond t B (place S (norm S (reduce S B v)) B) ≡ place S (norm S (reduce S B v)) B
      go true e = absurd (h (is_nul_yes (reduce S B v) e))
      go false e = refl

  pub insert_reduced : (B : List Vec) (v : Vec) → Reduced S B → Reduced S (insert S B v)
  insert_reduced B v ρ = go (dec_nul (reduce S B v))
    where
      go : Dec (reduce S B v ≡ nul) → Reduced S (insert S B v)
      go (yes e) = subst (Reduced S) (sym (insert_old B v e)) ρ
      go (no h) =
          subst (Reduced S) (sym (insert_new B v h))
          (place_reduced (norm S (reduce S B v)) (norm_one (reduce S B v) h) B ρ (norm_zeroed (reduce S B v) B (reduce_zeroed S B v ρ)))

  pub span_of_reduce : (B : List Vec) (v : Vec) → reduce S B v ≡ nul → Span S B v
  span_of_reduce B v e = go (reduce_rest S B v)
    where
      go : (w : Vec) × Span S B w × (v ≡ add w (reduce S B v)) → Span S B v
      go (w, s, q) = cast S (q ∙ ap (add w) e ∙ add_nul S w) s

  pub insert_span : (B : List Vec) (v u : Vec) → Span S (insert S B v) u ↔ Span S (v ∷ B) u
  insert_span B v u = go (dec_nul (reduce S B v))
    where
      old : reduce S B v ≡ nul → Span S B u ↔ Span S (v ∷ B) u
      old e = (λ s. span_weak S s, λ s. span_bind S (mem_cons {P = Span S B} (span_of_reduce B v e) (λ x m. span_mem S m)) s)

      new : reduce S B v ≢ nul → (w : Vec) × Span S B w × (v ≡ add w (reduce S B v)) → Span S (place S (norm S (reduce S B v)) B) u ↔ Span S (v ∷ B) u
      new h (w, s, q) = (
        λ t. span_bind S (mem_cons {P = Span S (v ∷ B)} there (λ x m. span_mem S (Memᴰ.tail m))) (iff.0 t),
        λ t. iff.1 (span_bind S (mem_cons {P = Span S (norm S (reduce S B v) ∷ B)} back (λ x m. span_mem S (Memᴰ.tail m))) t),
      )
        where
          iff : Span S (place S (norm S (reduce S B v)) B) u ↔ Span S (norm S (reduce S B v) ∷ B) u
          iff = place_span (norm S (reduce S B v)) (norm_one (reduce S B v) h) B u

          there : Span S (v ∷ B) (norm S (reduce S B v))
          there = unfold norm in span_scale S (inv (coord (reduce S B v) (lead (reduce S B v)))) (span_rest S q (span_weak S s) (span_head S v B))

          back : Span S (norm S (reduce S B v) ∷ B) v
          back =
              cast S (q ∙ add_comm S w (reduce S B v) ∙ ap (λ y. add y w) (sym (norm_back (reduce S B v) h)))
              (span_cons S (coord (reduce S B v) (lead (reduce S B v))) s)

      go : Dec (reduce S B v ≡ nul) → Span S (insert S B v) u ↔ Span S (v ∷ B) u
      go (yes e) = subst (λ C. Span S C u ↔ Span S (v ∷ B) u) (sym (insert_old B v e)) (old e)
      go (no h) = subst (λ C. Span S C u ↔ Span S (v ∷ B) u) (sym (insert_new B v h)) (new h (reduce_rest S B v))

  -- a basis grows by one row where the vector is new, and else not
  pub insert_length_new : (B : List Vec) (v : Vec) → reduce S B v ≢ nul → length (insert S B v) ≡ suc (length B)
  insert_length_new B v h = ap length (insert_new B v h) ∙ place_length (norm S (reduce S B v)) (norm_one (reduce S B v) h) B

  -- ---- the basis of a list
  pub inserts_reduced : (xs B : List Vec) → Reduced S B → Reduced S (inserts S B xs)
  unfolding inserts
  inserts_reduced [] B ρ = ρ
  inserts_reduced (x ∷ xs) B ρ = inserts_reduced xs (insert S B x) (insert_reduced B x ρ)

  pub inserts_span : (xs B : List Vec) (u : Vec) → Span S (inserts S B xs) u ↔ Span S (xs ++ B) u
  unfolding inserts
  inserts_span [] B u = (λ s. s, λ s. s)
  inserts_span (x ∷ xs) B u = go (inserts_span xs (insert S B x) u)
    where
      swap_in : (y : Vec) → Memᴰ y (xs ++ insert S B x) → Span S (x ∷ (xs ++ B)) y
      swap_in y m = cases (Memᴰ.append_cases xs m)
        where
          cases : Memᴰ y xs ⊎ Memᴰ y (insert S B x) → Span S (x ∷ (xs ++ B)) y
          cases (inl k) = span_mem S (Memᴰ.tail (Memᴰ.append_left B k))
          cases (inr k) =
              span_mono S (mem_cons {P = λ z. Memᴰ z (x ∷ (xs ++ B))} (Memᴰ.head refl) (λ z j. Memᴰ.tail (Memᴰ.append_right xs j)))
              ((insert_span B x y).0 (span_mem S k))

      swap_out : (y : Vec) → Memᴰ y (x ∷ (xs ++ B)) → Span S (xs ++ insert S B x) y
      swap_out = mem_cons {P = Span S (xs ++ insert S B x)} (up x (Memᴰ.head refl)) (λ y m. cases y (Memᴰ.append_cases xs m))
        where
          up : (y : Vec) → Memᴰ y (x ∷ B) → Span S (xs ++ insert S B x) y
          up y m = span_mono S (λ z k. Memᴰ.append_right xs k) ((insert_span B x y).1 (span_mem S m))

          cases : (y : Vec) → Memᴰ y xs ⊎ Memᴰ y B → Span S (xs ++ insert S B x) y
          cases y (inl k) = span_mem S (Memᴰ.append_left (insert S B x) k)
          cases y (inr k) = up y (Memᴰ.tail k)

      go : Span S (inserts S (insert S B x) xs) u ↔ Span S (xs ++ insert S B x) u → Span S (inserts S (insert S B x) xs) u ↔ Span S (x ∷ (xs ++ B)) u
      go e = (λ s. span_bind S swap_in (e.0 s), λ s. e.1 (span_bind S swap_out s))

  pub basis_of_reduced : (xs : List Vec) → Reduced S (basis_of S xs)
  unfolding basis_of
  basis_of_reduced xs = inserts_reduced xs [] tt

  pub basis_of_span : (xs : List Vec) (u : Vec) → Span S (basis_of S xs) u ↔ Span S xs u
  unfolding basis_of
  basis_of_span xs u = subst (λ ys. Span S (inserts S [] xs) u ↔ Span S ys u) (append-nil xs) (inserts_span xs [] u)

  -- membership in a reduced basis is decided, and so in the span of any list
  pub dec_member : (B : List Vec) → Reduced S B → (v : Vec) → Dec (Span S B v)
  dec_member B ρ v = go (dec_nul (reduce S B v))
    where
      go : Dec (reduce S B v ≡ nul) → Dec (Span S B v)
      go (yes e) = yes ((member S B ρ v).1 e)
      go (no h) = no (λ s. h ((member S B ρ v).0 s))

  pub dec_span : (xs : List Vec) (v : Vec) → Dec (Span S xs v)
  dec_span xs v = go (dec_member (basis_of S xs) (basis_of_reduced xs) v)
    where
      go : Dec (Span S (basis_of S xs) v) → Dec (Span S xs v)
      go (yes s) = yes ((basis_of_span xs v).0 s)
      go (no h) = no (λ s. h ((basis_of_span xs v).1 s))
