-- A space has one reduced basis, and its dimension is well defined.
--   unique          two reduced bases of one span are equal lists
--   sub_length      of two reduced bases, the one whose span lies in the other's has no more rows
--   dim_le, dim_same, dim_length   a smaller span has no larger dimension, equal ones equal; n vectors span at most n dimensions
--   Fresh B xs      each of xs is outside the span of B and of those before it; `inserts_fresh`: each then gives a row
--   same_size       a part with as many dimensions is the whole
-- Assumes nothing.
use Rattle.std.specs.Prelude.{◌≡◌, refl, ◌≢◌}
use Rattle.std.proofs.Common.{sym, ap₂, ◌∙◌, subst, le_antisymm}
use Rattle.std.proofs.Math.Path.{ap}
use mathlib.Core.List.{List, [], ◌∷◌}
use Prim.Native.Nat.{ℕ, suc, ◌+◌, ◌<◌, ◌≤◌, zero-le, suc-le-suc}
use native.Mathlib.Omega.{arith}
use Rattle.std.proofs.Math.Decide.{dec_lt}
use Rattle.std.proofs.Math.ListN.{length}
use Rattle.linear.specs.Space.{Space}
use Rattle.linear.specs.Span.{Span, Within, SameSpan}
use Rattle.linear.specs.Basis.{reduce, insert, inserts, basis_of, Zeroed, Reduced, dim}
use Rattle.linear.specs.laws.Space.{zero_plus, neg_plus, times_zero, add_nul, one_scale, take_put}
use Rattle.linear.specs.laws.Span.{mem_cons, span_mem, span_bind, span_nil, span_weak, span_head, span_cons_head, span_coord}
use Rattle.linear.proofs.laws.Reduce.{ne_nul, one_ne, below_zero, drop_lead, span_zeroed, member}
use Rattle.linear.proofs.laws.Insert.{dec_nul, insert_old, insert_reduced, insert_span, insert_length_new, basis_of_reduced, basis_of_span, dec_span}

module _ (S : Space) where
  open S use {fld, Vec, nul, add, scale, coord, lead, coord_nul, coord_add, coord_scale, lead_above, lead_ne}
  open fld use {K, 𝟘, 𝟙, plus, times, neg, inv, times_one, times_comm, inv_times, one_ne_zero}

  row_ne_nul : (b : Vec) → coord b (lead b) ≡ 𝟙 → b ≢ nul
  row_ne_nul b o = ne_nul S (lead b) (one_ne S o)

  -- above the first lead a combination is 0
  above : (c : Vec) (C : List Vec) → Reduced S (c ∷ C) → (i : ℕ) → lead c < i → (v : Vec) → Span S (c ∷ C) v → coord v i ≡ 𝟘
  above c C ρ i l v s =
      span_coord S i (mem_cons {P = λ x. coord x i ≡ 𝟘} (lead_above c i l) (λ x m. let k : lead x < lead c = ρ.1 x m in lead_above x i (omega arith))) s

  lead_le : (b c : Vec) (C : List Vec) → coord b (lead b) ≡ 𝟙 → Reduced S (c ∷ C) → Span S (c ∷ C) b → lead b ≤ lead c
  lead_le b c C o ρ s = go (dec_lt (lead c) (lead b))
    where
      go : Dec (lead c < lead b) → lead b ≤ lead c
      go (yes l) = absurd (one_ne S o (above c C ρ (lead b) l b s))
      go (no n) = omega arith

  -- the rows after the first, where the leads agree
  rows_in : (b c : Vec) (B C : List Vec) → Reduced S (b ∷ B) → Reduced S (c ∷ C) → lead b ≡ lead c → Within S (b ∷ B) (c ∷ C) → Within S B C
  rows_in b c B C ρ σ q h v s =
      drop_lead S c C σ.0 (below_zero S c C σ.1) v (h v (span_weak S s))
      (ap (coord v) (sym q) ∙ span_coord S (lead b) (below_zero S b B ρ.1) s)

  pub sub_length : (C B : List Vec) → Reduced S B → Reduced S C → Within S B C → length B ≤ length C
  sub_length [] [] ρ σ h = zero-le
  sub_length [] (b ∷ B) ρ σ h = absurd (row_ne_nul b ρ.0 (span_nil S (h b (span_head S b B))))
  sub_length (c ∷ C) [] ρ σ h = zero-le
  sub_length (c ∷ C) (b ∷ B) ρ σ h =
      go (dec_lt (lead b) (lead c)) (λ k. sub_length C (b ∷ B) ρ σ.3 k) (λ k. sub_length C B ρ.3 σ.3 k)
    where
      go : Dec (lead b < lead c) → (Within S (b ∷ B) C → suc (length B) ≤ length C) → (Within S B C → length B ≤ length C) → suc (length B) ≤ suc (length C)
      go (yes l) f g = omega (arith, f (λ v s. drop_lead S c C σ.0 (below_zero S c C σ.1) v (h v s) (above b B ρ (lead c) l v s)))
      go (no n) f g =
          let q : lead b ≡ lead c = omega (arith, n, lead_le b c C ρ.0 σ (h b (span_head S b B))) in
          suc-le-suc (g (rows_in b c B C ρ σ q h))

  -- ---- a space is its reduced basis
  pub unique : (B C : List Vec) → Reduced S B → Reduced S C → Within S B C → Within S C B → B ≡ C
  unique [] [] ρ σ h k = refl
  unique [] (c ∷ C) ρ σ h k = absurd (row_ne_nul c σ.0 (span_nil S (k c (span_head S c C))))
  unique (b ∷ B) [] ρ σ h k = absurd (row_ne_nul b ρ.0 (span_nil S (h b (span_head S b B))))
  unique (b ∷ B) (c ∷ C) ρ σ h k = let e : B ≡ C = unique B C ρ.3 σ.3 (rows_in b c B C ρ σ q h) (rows_in c b C B σ ρ (sym q) k) in ap₂ ◌∷◌ (same e) e
    where
      q : lead b ≡ lead c
      q = omega (arith, lead_le b c C ρ.0 σ (h b (span_head S b B)), lead_le c b B σ.0 ρ (k c (span_head S c C)))

      d : Vec
      d = add (scale (neg 𝟙) c) b

      at : (i : ℕ) → coord d i ≡ plus (times (neg 𝟙) (coord c i)) (coord b i)
      at i = coord_add (scale (neg 𝟙) c) b i ∙ ap (λ y. plus y (coord b i)) (coord_scale (neg 𝟙) c i)

      d_lead : coord d (lead c) ≡ 𝟘
      d_lead =
          at (lead c) ∙ ap₂ (λ x y. plus (times (neg 𝟙) x) y) σ.0 (ap (coord b) (sym q) ∙ ρ.0)
          ∙ ap (λ x. plus x 𝟙) (times_one (neg 𝟙)) ∙ neg_plus fld 𝟙

      d_in : Span S C d
      d_in = drop_lead S c C σ.0 (below_zero S c C σ.1) d (span_cons_head S (neg 𝟙) (h b (span_head S b B))) d_lead

      d_zeroed : B ≡ C → Zeroed S d C
      d_zeroed e x m =
          at (lead x) ∙ ap₂ (λ y z. plus (times (neg 𝟙) y) z) (σ.2 x m) (subst (λ L. Zeroed S b L) e ρ.2 x m)
          ∙ ap (λ y. plus y 𝟘) (times_zero fld (neg 𝟙)) ∙ zero_plus fld 𝟘

      same : B ≡ C → b ≡ c
      same e =
          sym (take_put S 𝟙 c b) ∙ ap (add (scale 𝟙 c)) (span_zeroed S C σ.3 d d_in (d_zeroed e)) ∙ add_nul S (scale 𝟙 c) ∙ one_scale S c

  -- ---- dimension
  pub dim_le : (xs ys : List Vec) → Within S xs ys → dim S xs ≤ dim S ys
  unfolding dim
  dim_le xs ys h =
      sub_length (basis_of S ys) (basis_of S xs) (basis_of_reduced S xs) (basis_of_reduced S ys)
      (λ v s. (basis_of_span S ys v).1 (h v ((basis_of_span S xs v).0 s)))

  pub inserts_le : (xs B : List Vec) → length (inserts S B xs) ≤ length B + length xs
  unfolding inserts
  inserts_le [] B = omega arith
  inserts_le (x ∷ xs) B = go (dec_nul S (reduce S B x)) (inserts_le xs (insert S B x))
    where
      go : Dec (reduce S B x ≡ nul) → length (inserts S (insert S B x) xs) ≤ length (insert S B x) + length xs
          → length (inserts S (insert S B x) xs) ≤ length B + suc (length xs)
      go (yes e) k = omega (arith, k, ap length (insert_old S B x e))
      go (no n) k = omega (arith, k, insert_length_new S B x n)

  -- each vector is outside the span of B and of those before it
  abbrev pub Fresh : List Vec → List Vec → Type 0
  Fresh B [] = Unit {0}
  Fresh B (x ∷ xs) = ¬ Span S B x × Fresh (x ∷ B) xs

  pub fresh_sub : (xs B C : List Vec) → Within S B C → Fresh C xs → Fresh B xs
  fresh_sub [] B C h f = tt
  fresh_sub (x ∷ xs) B C h f = (
    λ s. f.0 (h x s),
    fresh_sub xs (x ∷ B) (x ∷ C)
        (λ v s. span_bind S (mem_cons {P = Span S (x ∷ C)} (span_head S x C) (λ y m. span_weak S (h y (span_mem S m)))) s) f.1,
  )

  pub inserts_fresh : (xs B : List Vec) → Reduced S B → Fresh B xs → length (inserts S B xs) ≡ length B + length xs
  unfolding inserts
  inserts_fresh [] B ρ f = omega arith
  inserts_fresh (x ∷ xs) B ρ f =
      let n : length (insert S B x) ≡ suc (length B) = insert_length_new S B x (λ e. f.0 ((member S B ρ x).1 e)) in
      let k : length (inserts S (insert S B x) xs) ≡ length (insert S B x) + length xs =
      inserts_fresh xs (insert S B x) (insert_reduced S B x ρ) (fresh_sub xs (insert S B x) (x ∷ B) (λ v s. (insert_span S B x v).0 s) f.1) in
      omega arith

  -- and back: if no row is lost, each was new
  pub fresh_of_length : (xs B : List Vec) → Reduced S B → length (inserts S B xs) ≡ length B + length xs → Fresh B xs
  unfolding inserts
  fresh_of_length [] B ρ e = tt
  fresh_of_length (x ∷ xs) B ρ e = go (dec_nul S (reduce S B x)) (λ k. fresh_of_length xs (insert S B x) (insert_reduced S B x ρ) k)
    where
      le : length (inserts S (insert S B x) xs) ≤ length (insert S B x) + length xs
      le = inserts_le xs (insert S B x)

      go : Dec (reduce S B x ≡ nul) → (length (inserts S (insert S B x) xs) ≡ length (insert S B x) + length xs → Fresh (insert S B x) xs) → Fresh B (x ∷ xs)
      go (yes q) f = absurd (omega (arith, e, le, ap length (insert_old S B x q)))
      go (no n) f = (
        λ s. n ((member S B ρ x).0 s),
        fresh_sub xs (x ∷ B) (insert S B x) (λ v s. (insert_span S B x v).1 s) (f (omega (arith, e, insert_length_new S B x n))),
      )

  pub dim_fresh : (xs : List Vec) → Fresh [] xs → dim S xs ≡ length xs
  unfolding dim basis_of
  dim_fresh xs f = omega (arith, inserts_fresh xs [] tt f)

  pub dim_length : (xs : List Vec) → dim S xs ≤ length xs
  unfolding dim basis_of
  dim_length xs = omega (arith, inserts_le xs [])

  -- a basis is the basis of any list that spans it
  pub basis_of_is : (B xs : List Vec) → Reduced S B → Within S B xs → Within S xs B → basis_of S xs ≡ B
  basis_of_is B xs ρ h k =
      unique (basis_of S xs) B (basis_of_reduced S xs) ρ (λ v s. k v ((basis_of_span S xs v).0 s)) (λ v s. (basis_of_span S xs v).1 (h v s))

  -- a part with as many dimensions is the whole
  pub same_size : (B xs : List Vec) → Reduced S B → Within S xs B → length B ≤ dim S xs → Within S B xs
  unfolding dim
  same_size B xs ρ h l v s = go (dec_span S xs v)
    where
      go : Dec (Span S xs v) → Span S xs v
      go (yes t) = t
      go (no n) =
          let D : List Vec = basis_of S xs in
          let σ : Reduced S D = basis_of_reduced S xs in
          let big : length (insert S D v) ≡ suc (length D) = insert_length_new S D v (λ e. n ((basis_of_span S xs v).0 ((member S D σ v).1 e))) in
          let small : length (insert S D v) ≤ length B =
          sub_length B (insert S D v) (insert_reduced S D v σ) ρ
          (λ u t. span_bind S (mem_cons {P = Span S B} s (λ x m. h x ((basis_of_span S xs x).0 (span_mem S m)))) ((insert_span S D v u).0 t)) in
          absurd (omega (arith, big, small, l))

  -- lists with one span have one dimension
  pub dim_same : (xs ys : List Vec) → SameSpan S xs ys → dim S xs ≡ dim S ys
  dim_same xs ys e = le_antisymm (dim_le xs ys e.0) (dim_le ys xs e.1)
