-- Independence by coefficients is independence one by one; as many independent vectors as dimensions.
--   independent_fresh     xs are independent exactly if each is outside the span of those before it
--   dim_independent       n independent vectors span n dimensions
--   independent_dim       and n vectors that span n dimensions are independent
--   dimension             independent lists with one span are equally long, and that is its dimension
--   reduced_independent   the rows of a reduced basis are independent
-- Assumes nothing.
use Rattle.std.specs.Prelude.{◌≡◌, ◌≢◌, ◌↔◌}
use Rattle.std.proofs.Math.Path.{refl, sym, ap, ap₂}
use Rattle.std.proofs.Common.{◌∙◌, arith}
use mathlib.Core.List.Memᴰ
use mathlib.Core.List.{List, [], ◌∷◌}
use Prim.Native.Nat.{suc}
use Rattle.std.proofs.Math.Nat.{suc_inj}
use Rattle.std.proofs.Math.ListN.{length}
use Rattle.linear.specs.Space.{Space}
use Rattle.linear.specs.Span.{combination, Span, SameSpan, AllZero, Independent}
use Rattle.linear.specs.Basis.{basis_of, Reduced, dim}
use Rattle.linear.specs.laws.Space.{add_comm, add_assoc, add_nul, nul_add, add_left_comm, zero_scale, one_scale, scale_scale, put_take, no_divisor}
use Rattle.linear.specs.laws.Span.{mem_cons, cast, span_nul, span_none, span_scale, span_nil, span_uncons, span_cons, span_rest}
use Rattle.linear.proofs.laws.Insert.{dec_nul}
use Rattle.linear.proofs.laws.Dimension.{Fresh, dim_fresh, dim_same, fresh_of_length, basis_of_is}

module _ (S : Space) where
  open S use {fld, Vec, nul, add, scale, coord, lead, coord_nul, coord_add, coord_scale, lead_above, lead_ne}
  open fld use {K, 𝟘, 𝟙, plus, times, neg, inv, times_one, times_comm, inv_times, one_ne_zero}

  -- a multiple of a vector that is not 0 is 0 only by 0
  pub scale_zero : (c : K) (x : Vec) → x ≢ nul → scale c x ≡ nul → c ≡ 𝟘
  scale_zero c x h e =
      no_divisor fld (coord x (lead x)) c (lead_ne x h)
      (times_comm (coord x (lead x)) c ∙ sym (coord_scale c x (lead x)) ∙ ap (λ y. coord y (lead x)) e ∙ coord_nul (lead x))

  combination_zero : (cs : List K) (xs : List Vec) → AllZero S cs → combination S cs xs ≡ nul
  unfolding combination
  combination_zero [] xs h = refl
  combination_zero (c ∷ cs) [] h = refl
  combination_zero (c ∷ cs) (x ∷ xs) h =
      ap₂ (λ a v. add (scale a x) v) (h c (Memᴰ.head refl)) (combination_zero cs xs (λ d m. h d (Memᴰ.tail m))) ∙ add_nul S
      (scale 𝟘 x) ∙ zero_scale S x

  -- no combination but that of zeros vanishes
  trivial : (xs B : List Vec) → Fresh S B xs → (cs : List K) → length cs ≡ length xs → (w : Vec) → Span S B w → add (combination S cs xs) w ≡ nul
      → AllZero S cs
  unfolding combination
  trivial xs B f [] l w s e = λ c m. absurd (Memᴰ.not-nil m)
  trivial [] B f (c ∷ cs) l w s e = absurd (omega arith)
  trivial (x ∷ xs) B f (c ∷ cs) l w s e =
      let rest : AllZero S cs = trivial xs (x ∷ B) f.1 cs (suc_inj l) (add (scale c x) w) (span_cons S c s) moved in
      mem_cons {P = λ d. d ≡ 𝟘} (head rest (dec_nul S (scale c x))) rest
    where
      moved : add (combination S cs xs) (add (scale c x) w) ≡ nul
      moved = add_left_comm S (combination S cs xs) (scale c x) w ∙ sym (add_assoc S (scale c x) (combination S cs xs) w) ∙ e

      head : AllZero S cs → Dec (scale c x ≡ nul) → c ≡ 𝟘
      head z (yes q) = scale_zero c x (λ p. f.0 (span_none S p)) q
      head z (no n) =
          let here : nul ≡ add w (scale c x) =
          sym moved ∙ ap (λ y. add y (add (scale c x) w)) (combination_zero cs xs z) ∙ nul_add S (add (scale c x) w) ∙ add_comm S (scale c x) w in
          let t : Span S B (scale c x) = span_rest S here s (span_nul S B) in
          absurd
          (f.0
          (cast S
          (sym (scale_scale S (inv c) c x ∙ ap (λ a. scale a x) (inv_times c (λ q. n (ap (λ a. scale a x) q ∙ zero_scale S x))) ∙ one_scale S x))
          (span_scale S (inv c) t)))

  zeros : List Vec → List K
  zeros [] = []
  zeros (x ∷ xs) = 𝟘 ∷ zeros xs

  zeros_length : (xs : List Vec) → length (zeros xs) ≡ length xs
  unfolding zeros
  zeros_length [] = refl
  zeros_length (x ∷ xs) = ap suc (zeros_length xs)

  zeros_zero : (xs : List Vec) → AllZero S (zeros xs)
  unfolding zeros
  zeros_zero [] = λ c m. absurd (Memᴰ.not-nil m)
  zeros_zero (x ∷ xs) = mem_cons {P = λ d. d ≡ 𝟘} refl (zeros_zero xs)

  fresh_of : (xs B : List Vec) → ((cs : List K) → length cs ≡ length xs → (w : Vec) → Span S B w → add (combination S cs xs) w ≡ nul → AllZero S cs)
      → Fresh S B xs
  unfolding combination
  fresh_of [] B h = tt
  fresh_of (x ∷ xs) B h = (new, fresh_of xs (x ∷ B) (λ cs l w s e. down cs l w (span_uncons S s) e))
    where
      new : ¬ Span S B x
      new s =
          one_ne_zero
          (h (𝟙 ∷ zeros xs) (ap suc (zeros_length xs)) (scale (neg 𝟙) x) (span_scale S (neg 𝟙) s)
          (add_comm S (add (scale 𝟙 x) (combination S (zeros xs) xs)) (scale (neg 𝟙) x)
          ∙ put_take S 𝟙 x (combination S (zeros xs) xs) ∙ combination_zero (zeros xs) xs (zeros_zero xs))
          𝟙 (Memᴰ.head refl))

      down : (cs : List K) → length cs ≡ length xs → (w : Vec) → (c : K) × (u : Vec) × Span S B u × (w ≡ add (scale c x) u)
          → add (combination S cs xs) w ≡ nul → AllZero S cs
      down cs l w (c, u, t, q) e d m =
          h (c ∷ cs) (ap suc l) u t
          (add_assoc S (scale c x) (combination S cs xs) u ∙ add_left_comm S (scale c x) (combination S cs xs) u ∙ ap (add (combination S cs xs))
          (sym q) ∙ e) d (Memᴰ.tail m)

  pub independent_fresh : (xs : List Vec) → Independent S xs ↔ Fresh S [] xs
  independent_fresh xs = (
    λ h. fresh_of xs [] (λ cs l w s e. h cs l (sym (add_nul S (combination S cs xs)) ∙ ap (add (combination S cs xs)) (sym (span_nil S s)) ∙ e)),
    λ f cs l e. trivial xs [] f cs l nul (span_nul S []) (add_nul S (combination S cs xs) ∙ e),
  )

  -- ---- as many independent vectors as dimensions
  pub dim_independent : (xs : List Vec) → Independent S xs → dim S xs ≡ length xs
  dim_independent xs h = dim_fresh S xs ((independent_fresh xs).0 h)

  -- independent lists with one span are equally long, and that is its dimension
  pub dimension : (xs ys : List Vec) → Independent S xs → SameSpan S xs ys → length xs ≡ dim S ys
  dimension xs ys i e = sym (dim_independent xs i) ∙ dim_same S xs ys e

  -- as many vectors as their span has dimensions
  pub independent_dim : (xs : List Vec) → dim S xs ≡ length xs → Independent S xs
  unfolding dim basis_of
  independent_dim xs e = (independent_fresh xs).1 (fresh_of_length S xs [] tt (omega (arith, e)))

  -- the rows of a reduced basis are independent
  pub reduced_independent : (B : List Vec) → Reduced S B → Independent S B
  reduced_independent B ρ = independent_dim B (unfold dim in ap length (basis_of_is S B B ρ (λ v s. s) (λ v s. s)))
