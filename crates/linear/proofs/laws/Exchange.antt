-- One vector in place of another.
--   exchange         what brings g in over C is brought in by g
--   insert_in        a basis with a vector put in is within a space that both are in
--   insert_swap      two vectors are put in in any order
--   fresh_mem        none of the generators that are new over B, one after the other, is in the span of B
--   fresh_once       and no number of theirs stands twice
--   Exchanged C g F  == which of the numbers F gives way to g over C, and what is left of them
--   exchange_one     of generators that are new over C and with it span g, g takes the place of one: the others are new over C with g, and span as much
-- Assumes nothing.
use Rattle.std.specs.Prelude.{◌≡◌, ℕ}
use Rattle.std.proofs.Math.Path.{refl, ap, subst}
use Rattle.std.proofs.Common.{sym, ◌∙◌}
use mathlib.Core.List.Memᴰ
use mathlib.Core.List.{List, [], ◌∷◌, Memᴰ}
use mathlib.Core.List.Permᴰ
use mathlib.Core.List.{Permᴰ}
use Rattle.linear.specs.Space.{Space}
use Rattle.linear.specs.Span.{Span, Within}
use Rattle.linear.specs.Basis.{insert, inserts, Reduced}
use Rattle.linear.specs.Entry.{generator, chosen}
use Rattle.linear.specs.laws.Space.{add_comm, nul_add, zero_scale, one_scale, scale_scale}
use Rattle.linear.specs.laws.Span.{mem_cons, cast, span_mem, span_bind, span_weak, span_head, span_scale, span_uncons, span_rest}
use Rattle.linear.proofs.laws.Insert.{dec_nul, insert_reduced, insert_span, dec_member}
use Rattle.linear.proofs.laws.Dimension.{unique, Fresh, fresh_sub}
use Rattle.linear.proofs.laws.Permuted.{Distinct}

module _ (S : Space) where
  open S use {fld, Vec, nul, add, scale}
  open fld use {inv, inv_times}

  pub exchange : (C : List Vec) (x g : Vec) → Span S (x ∷ C) g → ¬ Span S C g → Span S (g ∷ C) x
  exchange C x g s n = go (span_uncons S s).0 (span_uncons S s).1 (span_uncons S s).2 (span_uncons S s).3 (dec_nul S (scale (span_uncons S s).0 x))
    where
      go : (c : fld.K) (w : Vec) → Span S C w → g ≡ add (scale c x) w → Dec (scale c x ≡ nul) → Span S (g ∷ C) x
      go c w t e (yes z) = absurd (n (cast S (e ∙ ap (λ y. add y w) z ∙ nul_add S w) t))
      go c w t e (no z) =
          cast S
          (sym (scale_scale S (inv c) c x ∙ ap (λ a. scale a x) (inv_times c (λ q. z (ap (λ a. scale a x) q ∙ zero_scale S x))) ∙ one_scale S x))
          (span_scale S (inv c) (span_rest S (e ∙ add_comm S (scale c x) w) (span_weak S t) (span_head S g C)))

  -- a basis with one vector more is within another space, if it and the vector are
  pub insert_in : (C : List Vec) (g : Vec) (D : List Vec) → Within S C D → Span S D g → Within S (insert S C g) D
  insert_in C g D h s v t = span_bind S (mem_cons {P = Span S D} s (λ x m. h x (span_mem S m))) ((insert_span S C g v).0 t)

  insert_out : (C : List Vec) (g : Vec) → Within S C (insert S C g)
  insert_out C g v s = (insert_span S C g v).1 (span_weak S s)

  insert_has : (C : List Vec) (g : Vec) → Span S (insert S C g) g
  insert_has C g = (insert_span S C g g).1 (span_head S g C)

  -- two vectors that bring in the same
  insert_same : (C : List Vec) (g x : Vec) → Reduced S C → Span S (insert S C x) g → Span S (insert S C g) x → insert S C g ≡ insert S C x
  insert_same C g x ρ s t =
      unique S (insert S C g) (insert S C x) (insert_reduced S C g ρ) (insert_reduced S C x ρ) (insert_in C g (insert S C x) (insert_out C x) s)
      (insert_in C x (insert S C g) (insert_out C g) t)

  pub insert_swap : (C : List Vec) (g x : Vec) → Reduced S C → insert S (insert S C g) x ≡ insert S (insert S C x) g
  insert_swap C g x ρ =
      unique S (insert S (insert S C g) x) (insert S (insert S C x) g) (insert_reduced S (insert S C g) x (insert_reduced S C g ρ))
      (insert_reduced S (insert S C x) g (insert_reduced S C x ρ)) (half g x) (half x g)
    where
      half : (g x : Vec) → Within S (insert S (insert S C g) x) (insert S (insert S C x) g)
      half g x =
          let D : List Vec = insert S (insert S C x) g in
          let up : Within S (insert S C x) D = insert_out (insert S C x) g in
          insert_in (insert S C g) x D (insert_in C g D (λ v s. up v (insert_out C x v s)) (insert_has (insert S C x) g)) (up x (insert_has C x))

  module _ (gens : List Vec) where
    abbrev gen : ℕ → Vec
    gen j = generator S gens j

    abbrev gens_at : List ℕ → List Vec
    gens_at es = chosen S gens es

    pub fresh_mem : (F : List ℕ) (B : List Vec) → Fresh S B (gens_at F) → (f : ℕ) → Memᴰ f F → ¬ Span S B (gen f)
    unfolding chosen
    fresh_mem [] B φ = λ f m. absurd (Memᴰ.not-nil m)
    fresh_mem (e ∷ F) B φ = mem_cons {P = λ f. ¬ Span S B (gen f)} φ.0 (λ f m s. fresh_mem F (gen e ∷ B) φ.1 f m (span_weak S s))

    pub fresh_once : (F : List ℕ) (B : List Vec) → Fresh S B (gens_at F) → Distinct F
    unfolding chosen
    fresh_once [] B φ = tt
    fresh_once (e ∷ F) B φ = (
      λ f m q. fresh_mem F (gen e ∷ B) φ.1 f m (subst (λ j. Span S (gen e ∷ B) (gen j)) q (span_head S (gen e) B)),
      fresh_once F (gen e ∷ B) φ.1,
    )

    -- what is left of F once g took the place of `out`
    pub record Exchanged (C : List Vec) (g : Vec) (F : List ℕ) : Type 0 where
      pub out : ℕ
      pub rest : List ℕ
      pub parts : Permᴰ F (out ∷ rest)
      pub fresh : Fresh S (insert S C g) (gens_at rest)
      pub spans : inserts S C (gens_at F) ≡ inserts S (insert S C g) (gens_at rest)

    pub exchange_one : (F : List ℕ) (C : List Vec) (g : Vec) → Reduced S C → ¬ Span S C g → Fresh S C (gens_at F) → Span S (inserts S C (gens_at F)) g
        → Exchanged C g F
    unfolding chosen inserts
    exchange_one [] C g ρ n φ s = absurd (n s)
    exchange_one (f ∷ F) C g ρ n φ s =
        go (dec_member S D σ g) (λ k. exchange_one F D g σ k (fresh_sub S (gens_at F) D (gen f ∷ C) (λ v t. (insert_span S C (gen f) v).0 t) φ.1) s)
      where
        D : List Vec
        D = insert S C (gen f)

        σ : Reduced S D
        σ = insert_reduced S C (gen f) ρ

        go : Dec (Span S D g) → (¬ Span S D g → Exchanged D g F) → Exchanged C g (f ∷ F)
        go (yes t) ih =
            let e : insert S C g ≡ D =
            insert_same C g (gen f) ρ t ((insert_span S C g (gen f)).1 (exchange C (gen f) g ((insert_span S C (gen f) g).0 t) n)) in
            record {
              out = f;
              rest = F;
              parts = Permᴰ.refl (f ∷ F);
              fresh = subst (λ B. Fresh S B (gens_at F)) (sym e) (fresh_sub S (gens_at F) D (gen f ∷ C) (λ v r. (insert_span S C (gen f) v).0 r) φ.1);
              spans = unfold chosen inserts in ap (λ B. inserts S B (gens_at F)) (sym e);
            }
        go (no k) ih =
            let E = ih k in
            let q : insert S (insert S C g) (gen f) ≡ insert S D g = insert_swap C g (gen f) ρ in
            record {
              out = E.out;
              rest = f ∷ E.rest;
              parts = Permᴰ.trans (Permᴰ.cons refl E.parts) (Permᴰ.swap refl refl);
              fresh = unfold chosen in (
                λ r. k ((insert_span S C (gen f) g).1 (exchange C g (gen f) ((insert_span S C g (gen f)).0 r) φ.0)),
                fresh_sub S (gens_at E.rest) (gen f ∷ insert S C g) (insert S D g)
                    (λ v r. subst (λ B. Span S B v) q ((insert_span S (insert S C g) (gen f) v).1 r)) E.fresh,
              );
              spans = unfold chosen inserts in E.spans ∙ ap (λ B. inserts S B (gens_at E.rest)) (sym q);
            }
