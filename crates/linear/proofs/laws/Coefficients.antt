-- Coefficients by reduction.
--   reduce_multiple      what is left of d x and a combination of the rows is d times what is left of x
--   coefficient_only     the coefficient beside a basis that x is outside of is the only one
--   coefficient_rest     without it a vector is a combination of the rows
--   independent_tail, independent_head   of independent vectors those after the first are, and the first is none of their combinations
--   coefficients_length, coefficients_sum, coefficients_only   as many as vectors; their combination is the vector; no others are
-- Assumes nothing.
use Rattle.std.specs.Prelude.{◌≡◌, ◌≢◌, length}
use Rattle.std.proofs.Math.Path.{refl, sym, ap, ap₂}
use Rattle.std.proofs.Common.{◌∙◌, arith}
use mathlib.Core.List.Memᴰ
use mathlib.Core.List.{List, [], ◌∷◌}
use Prim.Native.Nat.{suc}
use Rattle.std.proofs.Math.Nat.{suc_inj}
use Rattle.linear.specs.Space.{Space}
use Rattle.linear.specs.Span.{combination, Span, Independent}
use Rattle.linear.specs.Basis.{reduce, basis_of, Reduced}
use Rattle.linear.specs.Coefficients.{coefficient, coefficients}
use Rattle.linear.specs.laws.Space.{times_zero, add_comm, add_assoc, add_nul, nul_add, zero_scale, scale_add, take_put, put_take, minus_add}
use Rattle.linear.specs.laws.Span.{cast, span_add, span_scale, span_nil, span_uncons, span_cons}
use Rattle.linear.proofs.laws.Reduce.{reduce_rest, reduce_zeroed, member}
use Rattle.linear.proofs.laws.Residue.{reduce_same}
use Rattle.linear.proofs.laws.Insert.{dec_nul, basis_of_reduced, basis_of_span}

module _ (S : Space) where
  open S use {fld, Vec, nul, add, scale, coord, lead, coord_scale, lead_ne}
  open fld use {K, 𝟘, 𝟙, plus, times, neg, inv, plus_zero, plus_neg, times_assoc, times_comm, times_one, inv_times, one_ne_zero}

  -- ---- one vector beside a reduced basis
  module _ (B : List Vec) (ρ : Reduced S B) (x : Vec) where
    pub reduce_multiple : (d : K) (v w : Vec) → Span S B w → v ≡ add (scale d x) w → reduce S B v ≡ scale d (reduce S B x)
    reduce_multiple d v w s e =
        reduce_same S B ρ v (add (scale d q.0) w) (scale d r)
        (λ b m. coord_scale d r (lead b) ∙ ap (times d) (reduce_zeroed S B x ρ b m) ∙ times_zero fld d)
        (e ∙ ap (λ y. add y w) (ap (scale d) q.2 ∙ scale_add S d q.0 r) ∙ add_assoc S (scale d q.0) (scale d r) w
        ∙ ap (add (scale d q.0)) (add_comm S (scale d r) w) ∙ sym (add_assoc S (scale d q.0) w (scale d r)))
        (span_add S (span_scale S d q.1) s)
      where
        r : Vec
        r = reduce S B x

        q : (a : Vec) × Span S B a × (x ≡ add a (reduce S B x))
        q = reduce_rest S B x

    pub coefficient_only : reduce S B x ≢ nul → (d : K) (v w : Vec) → Span S B w → v ≡ add (scale d x) w → coefficient S B x v ≡ d
    unfolding coefficient
    coefficient_only h d v w s e =
        let r : Vec = reduce S B x in
        let a : K = coord r (lead r) in
        ap (λ y. times (coord y (lead r)) (inv a)) (reduce_multiple d v w s e) ∙ ap (λ y. times y (inv a)) (coord_scale d r (lead r))
        ∙ times_assoc d a (inv a) ∙ ap (times d) (times_comm a (inv a) ∙ inv_times a (lead_ne r h)) ∙ times_one d

    pub coefficient_rest : (v : Vec) → Span S (x ∷ B) v → Span S B (add (scale (neg (coefficient S B x v)) x) v)
    coefficient_rest v s = go (dec_nul S (reduce S B x)) (span_uncons S s)
      where
        go : Dec (reduce S B x ≡ nul) → (d : K) × (w : Vec) × Span S B w × (v ≡ add (scale d x) w) → Span S B (add (scale (neg (coefficient S B x v)) x) v)
        go (yes z) (d, w, t, e) =
            let i : Span S B x = (member S B ρ x).1 z in
            span_add S (span_scale S (neg (coefficient S B x v)) i) (cast S e (span_add S (span_scale S d i) t))
        go (no n) (d, w, t, e) = cast S (ap₂ (λ c y. add (scale (neg c) x) y) (coefficient_only n d v w t e) e ∙ put_take S d x w) t

  -- ---- independent vectors
  pub independent_tail : (x : Vec) (xs : List Vec) → Independent S (x ∷ xs) → Independent S xs
  unfolding combination
  independent_tail x xs h cs l e c m =
      h (𝟘 ∷ cs) (ap suc l) (ap (λ y. add y (combination S cs xs)) (zero_scale S x) ∙ nul_add S (combination S cs xs) ∙ e) c (Memᴰ.tail m)

  pub independent_head : (x : Vec) (xs : List Vec) → Independent S (x ∷ xs) → ¬ Span S xs x
  unfolding combination
  independent_head x xs h s =
      one_ne_zero (sym (plus_zero 𝟙) ∙ ap (plus 𝟙) (sym zero) ∙ plus_neg 𝟙)
    where
      zero : neg 𝟙 ≡ 𝟘
      zero =
          h (neg 𝟙 ∷ s.coefficients) (ap suc s.count)
          (ap (add (scale (neg 𝟙) x)) (sym s.sum ∙ sym (add_nul S x)) ∙ minus_add S x nul) (neg 𝟙) (Memᴰ.head refl)

  -- ---- several vectors
  pub coefficients_length : (xs : List Vec) (v : Vec) → length (coefficients S xs v) ≡ length xs
  unfolding coefficients
  coefficients_length [] v = refl
  coefficients_length (x ∷ xs) v = ap suc (coefficients_length xs (add (scale (neg (coefficient S (basis_of S xs) x v)) x) v))

  -- one vector beside the later ones, as beside their basis
  beside : (x : Vec) (xs : List Vec) (v : Vec) → Span S (x ∷ xs) v → Span S (x ∷ basis_of S xs) v
  beside x xs v s = let p = span_uncons S s in cast S p.3 (span_cons S p.0 ((basis_of_span S xs p.1).1 p.2))

  pub coefficients_sum : (xs : List Vec) (v : Vec) → Span S xs v → combination S (coefficients S xs v) xs ≡ v
  unfolding coefficients combination
  coefficients_sum [] v s = sym (span_nil S s)
  coefficients_sum (x ∷ xs) v s =
      let c : K = coefficient S (basis_of S xs) x v in
      ap (add (scale c x))
      (coefficients_sum xs (add (scale (neg c) x) v)
      ((basis_of_span S xs (add (scale (neg c) x) v)).0 (coefficient_rest (basis_of S xs) (basis_of_reduced S xs) x v (beside x xs v s))))
      ∙ take_put S c x v

  pub coefficients_only : (xs : List Vec) (v : Vec) → Independent S xs → (cs : List K) → length cs ≡ length xs → combination S cs xs ≡ v
      → cs ≡ coefficients S xs v
  unfolding coefficients combination
  coefficients_only [] v h [] l e = refl
  coefficients_only [] v h (c ∷ cs) l e = absurd (omega arith)
  coefficients_only (x ∷ xs) v h [] l e = absurd (omega arith)
  coefficients_only (x ∷ xs) v h (c ∷ cs) l e = ap₂ ◌∷◌ first (coefficients_only xs rest (independent_tail x xs h) cs (suc_inj l) (sym left))
    where
      B : List Vec
      B = basis_of S xs

      rest : Vec
      rest = add (scale (neg (coefficient S B x v)) x) v

      first : c ≡ coefficient S B x v
      first =
          sym
          (coefficient_only B (basis_of_reduced S xs) x
          (λ z. independent_head x xs h ((basis_of_span S xs x).0 ((member S B (basis_of_reduced S xs) x).1 z))) c v (combination S cs xs)
          ((basis_of_span S xs (combination S cs xs)).1 (record { coefficients = cs; count = suc_inj l; sum = refl })) (sym e))

      left : rest ≡ combination S cs xs
      left = ap₂ (λ a y. add (scale (neg a) x) y) (sym first) (sym e) ∙ put_take S c x (combination S cs xs)
