-- Reduction by a reduced basis, or by echelon rows. The theorem is `member`: a vector is in the span exactly if nothing of it is left.
--   clear_at, clear_keep       the cleared coordinate is 0, the others stay where the row is 0
--   reduce_rest                a vector is what reduction leaves and a combination of the rows
--   reduce_zeroed, reduce_done what is left is 0 at the leads, and what is 0 there is left as it is
--   echelon_member, member     the theorem for echelon rows, and for a reduced basis, whose rows are
-- Assumes nothing.
use Rattle.std.specs.Prelude.{◌≡◌, ◌≢◌, ◌⊎◌, ◌↔◌, ℕ, ◌<◌}
use Rattle.std.proofs.Math.Path.{refl, sym, ap}
use Rattle.std.proofs.Common.{ap₂, ◌∙◌, subst, inl, inr, arith}
use mathlib.Core.List.Memᴰ
use mathlib.Core.List.{List, [], ◌∷◌, Memᴰ}
use Rattle.std.proofs.Math.Decide.{dec_lt}
use Rattle.linear.specs.Space.{Space}
use Rattle.linear.specs.Span.{Span}
use Rattle.linear.specs.Basis.{clear, reduce, Zeroed, Reduced, Echelon}
use Rattle.linear.specs.laws.Space.{zero_plus, neg_plus, times_zero, neg_zero, add_assoc, add_nul, nul_add, scale_nul, zero_scale, take_put}
use Rattle.linear.specs.laws.Span.{mem_cons, cast, span_nul, span_nil, span_uncons, span_cons, span_head, span_scale, span_coord, span_rest}

module _ (S : Space) where
  open S use {fld, Vec, nul, add, scale, coord, lead, is_nul, coord_nul, coord_add, coord_scale, ext, lead_above, lead_ne, is_nul_yes, is_nul_no}
  open fld use {K, 𝟘, 𝟙, plus, times, neg, inv, plus_zero, plus_neg, times_one, times_comm, inv_times, one_ne_zero}

  -- ---- the lead
  pub ne_nul : {v : Vec} (p : ℕ) → coord v p ≢ 𝟘 → v ≢ nul
  ne_nul p h e = h (ap (λ x. coord x p) e ∙ coord_nul p)

  pub lead_unique : (v : Vec) (p : ℕ) → coord v p ≢ 𝟘 → ((i : ℕ) → p < i → coord v i ≡ 𝟘) → lead v ≡ p
  lead_unique v p h above = go (dec_lt (lead v) p) (dec_lt p (lead v))
    where
      go : Dec (lead v < p) → Dec (p < lead v) → lead v ≡ p
      go (yes l) e = absurd (h (lead_above v p l))
      go (no l) (yes g) = absurd (lead_ne v (ne_nul p h) (above (lead v) g))
      go (no l) (no g) = omega arith

  pub one_ne : {a : K} → a ≡ 𝟙 → a ≢ 𝟘
  one_ne e z = one_ne_zero (sym e ∙ z)

  -- ---- clear
  pub coord_clear : (b v : Vec) (i : ℕ) → coord (clear S b v) i ≡ plus (times (neg (coord v (lead b))) (coord b i)) (coord v i)
  unfolding clear
  coord_clear b v i = coord_add (scale (neg (coord v (lead b))) b) v i ∙ ap (λ x. plus x (coord v i)) (coord_scale (neg (coord v (lead b))) b i)

  pub clear_at : (b v : Vec) → coord b (lead b) ≡ 𝟙 → coord (clear S b v) (lead b) ≡ 𝟘
  clear_at b v e =
      coord_clear b v (lead b) ∙ ap (λ x. plus (times (neg (coord v (lead b))) x) (coord v (lead b))) e
      ∙ ap (λ x. plus x (coord v (lead b))) (times_one (neg (coord v (lead b)))) ∙ neg_plus fld (coord v (lead b))

  -- where b is 0 nothing changes
  pub clear_keep : (b v : Vec) (i : ℕ) → coord b i ≡ 𝟘 → coord (clear S b v) i ≡ coord v i
  clear_keep b v i e =
      coord_clear b v i ∙ ap (λ x. plus (times (neg (coord v (lead b))) x) (coord v i)) e
      ∙ ap (λ x. plus x (coord v i)) (times_zero fld (neg (coord v (lead b)))) ∙ zero_plus fld (coord v i)

  pub clear_done : (b v : Vec) → coord v (lead b) ≡ 𝟘 → clear S b v ≡ v
  unfolding clear
  clear_done b v e = ap (λ x. add (scale x b) v) (ap neg e ∙ neg_zero fld) ∙ ap (λ x. add x v) (zero_scale S b) ∙ nul_add S v

  pub clear_back : (b v : Vec) → v ≡ add (scale (coord v (lead b)) b) (clear S b v)
  unfolding clear
  clear_back b v = sym (take_put S (coord v (lead b)) b v)

  -- ---- reduce
  -- v is what reduce leaves and a combination of the rows
  pub reduce_rest : (B : List Vec) (v : Vec) → (w : Vec) × Span S B w × (v ≡ add w (reduce S B v))
  unfolding reduce
  reduce_rest [] v = (nul, span_nul S [], sym (nul_add S v))
  reduce_rest (b ∷ B) v = go (reduce_rest B (clear S b v))
    where
      go : (w : Vec) × Span S B w × (clear S b v ≡ add w (reduce S B (clear S b v)))
          → (w : Vec) × Span S (b ∷ B) w × (v ≡ add w (reduce S B (clear S b v)))
      go (w, s, e) = (
        add (scale (coord v (lead b)) b) w,
        span_cons S (coord v (lead b)) s,
        clear_back b v ∙ ap (add (scale (coord v (lead b)) b)) e ∙ sym (add_assoc S (scale (coord v (lead b)) b) w (reduce S B (clear S b v))),
      )

  pub reduce_keep : (B : List Vec) (v : Vec) (i : ℕ) → ((x : Vec) → Memᴰ x B → coord x i ≡ 𝟘) → coord (reduce S B v) i ≡ coord v i
  unfolding reduce
  reduce_keep [] v i h = refl
  reduce_keep (b ∷ B) v i h =
      reduce_keep B (clear S b v) i (λ x m. h x (Memᴰ.tail m)) ∙ clear_keep b v i (h b (Memᴰ.head refl))

  pub below_zero : (b : Vec) (B : List Vec) → ((x : Vec) → Memᴰ x B → lead x < lead b) → (x : Vec) → Memᴰ x B → coord x (lead b) ≡ 𝟘
  below_zero b B h x m = lead_above x (lead b) (h x m)

  pub reduce_zeroed : (B : List Vec) (v : Vec) → Reduced S B → Zeroed S (reduce S B v) B
  unfolding reduce
  reduce_zeroed [] v r = λ x m. absurd (Memᴰ.not-nil m)
  reduce_zeroed (b ∷ B) v r =
      mem_cons {P = λ x. coord (reduce S B (clear S b v)) (lead x) ≡ 𝟘}
      (reduce_keep B (clear S b v) (lead b) (below_zero b B r.1) ∙ clear_at b v r.0)
      (reduce_zeroed B (clear S b v) r.3)

  pub reduce_done : (B : List Vec) (v : Vec) → Zeroed S v B → reduce S B v ≡ v
  unfolding reduce
  reduce_done [] v z = refl
  reduce_done (b ∷ B) v z =
      ap (reduce S B) (clear_done b v (z b (Memᴰ.head refl))) ∙ reduce_done B v (λ x m. z x (Memᴰ.tail m))

  -- ---- membership
  -- a combination that is 0 at the lead of the first row is one of the other rows
  pub drop_lead : (b : Vec) (B : List Vec) → coord b (lead b) ≡ 𝟙 → ((x : Vec) → Memᴰ x B → coord x (lead b) ≡ 𝟘)
      → (u : Vec) → Span S (b ∷ B) u → coord u (lead b) ≡ 𝟘 → Span S B u
  drop_lead b B o h u s z = go (span_uncons S s)
    where
      zero_coeff : (c : K) (w : Vec) → Span S B w → u ≡ add (scale c b) w → c ≡ 𝟘
      zero_coeff c w t e =
          sym (plus_zero c)
          ∙ ap₂ plus (sym (times_one c) ∙ ap (times c) (sym o) ∙ sym (coord_scale c b (lead b))) (sym (span_coord S (lead b) h t))
          ∙ sym (coord_add (scale c b) w (lead b)) ∙ ap (λ y. coord y (lead b)) (sym e) ∙ z

      go : (c : K) × (w : Vec) × Span S B w × (u ≡ add (scale c b) w) → Span S B u
      go (c, w, t, e) = cast S (e ∙ ap (λ a. add (scale a b) w) (zero_coeff c w t e) ∙ ap (λ y. add y w) (zero_scale S b) ∙ nul_add S w) t

  pub span_zeroed : (B : List Vec) → Reduced S B → (u : Vec) → Span S B u → Zeroed S u B → u ≡ nul
  span_zeroed [] r u s z = span_nil S s
  span_zeroed (b ∷ B) r u s z =
      span_zeroed B r.3 u (drop_lead b B r.0 (below_zero b B r.1) u s (z b (Memᴰ.head refl))) (λ x m. z x (Memᴰ.tail m))

  -- the row 0 takes nothing away, and brings nothing in
  pub clear_nul : (v : Vec) → clear S nul v ≡ v
  unfolding clear
  clear_nul v = ap (λ x. add x v) (scale_nul S (neg (coord v (lead nul)))) ∙ nul_add S v

  pub span_no_nul : {B : List Vec} {v : Vec} → Span S (nul ∷ B) v → Span S B v
  span_no_nul s = let p = span_uncons S s in cast S (p.3 ∙ ap (λ x. add x p.1) (scale_nul S p.0) ∙ nul_add S p.1) p.2

  -- nothing is left of a combination of echelon rows
  echelon_none : (B : List Vec) → Echelon S B → (v : Vec) → Span S B v → reduce S B v ≡ nul
  unfolding reduce
  echelon_none [] h v s = span_nil S s
  echelon_none (b ∷ B) h v s = echelon_none B h.1 (clear S b v) (rest h.0)
    where
      rest : (b ≡ nul) ⊎ ((coord b (lead b) ≡ 𝟙) × ((x : Vec) → Memᴰ x B → coord x (lead b) ≡ 𝟘)) → Span S B (clear S b v)
      rest (inl z) = cast S (ap (λ y. clear S y v) z ∙ clear_nul v) (span_no_nul (subst (λ y. Span S (y ∷ B) v) z s))
      rest (inr o) =
          drop_lead b B o.0 o.1 (clear S b v) (span_rest S (clear_back b v) (span_scale S (coord v (lead b)) (span_head S b B)) s) (clear_at b v o.0)

  -- v is in the span exactly when nothing of it is left
  pub echelon_member : (B : List Vec) → Echelon S B → (v : Vec) → Span S B v ↔ (reduce S B v ≡ nul)
  echelon_member B h v = (echelon_none B h v, λ e. back e (reduce_rest B v))
    where
      back : reduce S B v ≡ nul → (w : Vec) × Span S B w × (v ≡ add w (reduce S B v)) → Span S B v
      back e (w, s, q) = cast S (q ∙ ap (add w) e ∙ add_nul S w) s

  pub reduced_echelon : (B : List Vec) → Reduced S B → Echelon S B
  reduced_echelon [] r = tt
  reduced_echelon (b ∷ B) r = (inr (r.0, below_zero b B r.1), reduced_echelon B r.3)

  pub member : (B : List Vec) → Reduced S B → (v : Vec) → Span S B v ↔ (reduce S B v ≡ nul)
  member B r = echelon_member B (reduced_echelon B r)
