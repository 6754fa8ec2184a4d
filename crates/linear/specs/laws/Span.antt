-- The laws of spans: closed under sums and multiples; what a list's vectors are combinations of, its combinations are too.
-- Assumes nothing.
use Rattle.std.specs.Prelude.{◌≡◌}
use Rattle.std.proofs.Math.Path.{refl, ap}
use Rattle.std.proofs.Common.{sym, ap₂, ◌∙◌, subst, arith}
use mathlib.Core.List.{List, [], ◌∷◌, Memᴰ}
use Prim.Native.Nat.{ℕ, suc}
use Rattle.std.proofs.Math.Nat.{suc_inj}
use Rattle.std.proofs.Math.ListN.{length}
use Rattle.linear.specs.Space.{Space}
use Rattle.linear.specs.laws.Space.{times_zero, add_assoc, add_nul, nul_add, add_left_comm, scale_nul, zero_scale, one_scale, scale_add, plus_scale, scale_scale, minus_add}
use Rattle.linear.specs.Span.{combination, Span}

-- what holds of the first and of the others holds of each
pub mem_cons : {A : Type 0} {P : A → Type 0} {b : A} {l : List A} → P b → ((x : A) → Memᴰ x l → P x) → (x : A) → Memᴰ x (b ∷ l) → P x
mem_cons {P = P} h t x (Memᴰ.head e) = subst P (sym e) h
mem_cons h t x (Memᴰ.tail m) = t x m

module _ (S : Space) where
  open S use {fld, Vec, nul, add, scale, coord, coord_nul, coord_add, coord_scale}
  open fld use {K, 𝟘, 𝟙, plus, times, neg, plus_zero}

  pub cast : {xs : List Vec} {u v : Vec} → u ≡ v → Span S xs v → Span S xs u
  cast e s = record { coefficients = s.coefficients; count = s.count; sum = e ∙ s.sum }

  -- ---- one vector more
  pub span_cons : {x : Vec} {xs : List Vec} {w : Vec} (c : K) → Span S xs w → Span S (x ∷ xs) (add (scale c x) w)
  unfolding combination
  span_cons {x} c s = record { coefficients = c ∷ s.coefficients; count = ap suc s.count; sum = ap (add (scale c x)) s.sum }

  pub span_uncons : {x : Vec} {xs : List Vec} {v : Vec} → Span S (x ∷ xs) v → (c : K) × (w : Vec) × Span S xs w × (v ≡ add (scale c x) w)
  unfolding combination
  span_uncons {x} {xs} {v} s = go s.coefficients s.count s.sum
    where
      go : (cs : List K) → length cs ≡ suc (length xs) → v ≡ combination S cs (x ∷ xs) → (c : K) × (w : Vec) × Span S xs w × (v ≡ add (scale c x) w)
      go [] l e = absurd (omega arith)
      go (c ∷ cs) l e = (c, combination S cs xs, record { coefficients = cs; count = suc_inj l; sum = refl }, e)

  pub span_nil : {v : Vec} → Span S [] v → v ≡ nul
  unfolding combination
  span_nil {v} s = s.sum ∙ go s.coefficients
    where
      go : (cs : List K) → combination S cs [] ≡ nul
      go [] = refl
      go (c ∷ cs) = refl

  pub span_weak : {x : Vec} {xs : List Vec} {v : Vec} → Span S xs v → Span S (x ∷ xs) v
  span_weak {x} {v = v} s = cast (sym (ap (λ y. add y v) (zero_scale S x) ∙ nul_add S v)) (span_cons 𝟘 s)

  -- ---- zero, sums and multiples
  pub span_nul : (xs : List Vec) → Span S xs nul
  unfolding combination
  span_nul [] = record { coefficients = []; count = refl; sum = refl }
  span_nul (x ∷ xs) = span_weak (span_nul xs)

  pub span_none : {xs : List Vec} {v : Vec} → v ≡ nul → Span S xs v
  span_none {xs} e = cast e (span_nul xs)

  pub span_head : (x : Vec) (xs : List Vec) → Span S (x ∷ xs) x
  span_head x xs = cast (sym (add_nul S (scale 𝟙 x) ∙ one_scale S x)) (span_cons 𝟙 (span_nul xs))

  sum_of : (x u v w z : Vec) (c d : K) → u ≡ add (scale c x) w → v ≡ add (scale d x) z → add u v ≡ add (scale (plus c d) x) (add w z)
  sum_of x u v w z c d e f =
      ap₂ add e f ∙ add_assoc S (scale c x) w (add (scale d x) z) ∙ ap (add (scale c x)) (add_left_comm S w (scale d x) z)
      ∙ sym (add_assoc S (scale c x) (scale d x) (add w z)) ∙ ap (λ y. add y (add w z)) (sym (plus_scale S c d x))

  pub span_add : {xs : List Vec} {u v : Vec} → Span S xs u → Span S xs v → Span S xs (add u v)
  span_add {xs = []} s t = span_none (ap₂ add (span_nil s) (span_nil t) ∙ add_nul S nul)
  span_add {xs = x ∷ xs} {u = u} {v = v} s t =
      let p = span_uncons s in
      let q = span_uncons t in
      cast (sum_of x u v p.1 q.1 p.0 q.0 p.3 q.3) (span_cons (plus p.0 q.0) (span_add {xs = xs} p.2 q.2))

  pub span_scale : {xs : List Vec} {v : Vec} (a : K) → Span S xs v → Span S xs (scale a v)
  span_scale {xs = []} a s = span_none (ap (scale a) (span_nil s) ∙ scale_nul S a)
  span_scale {xs = x ∷ xs} {v = v} a s =
      let p = span_uncons s in
      cast
      (ap (scale a) p.3 ∙ scale_add S a (scale p.0 x) p.1 ∙ ap (λ y. add y (scale a p.1)) (scale_scale S a p.0 x))
      (span_cons (times a p.0) (span_scale {xs = xs} a p.2))

  pub span_cons_head : {x : Vec} {xs : List Vec} {w : Vec} (c : K) → Span S (x ∷ xs) w → Span S (x ∷ xs) (add (scale c x) w)
  span_cons_head {x} {xs} c s = span_add (span_scale c (span_head x xs)) s

  -- what is left of a combination without a combination is one
  pub span_rest : {B : List Vec} {v w u : Vec} → v ≡ add w u → Span S B w → Span S B v → Span S B u
  span_rest {v = v} {w = w} {u = u} e s t =
      cast (sym (minus_add S w u) ∙ ap (add (scale (neg 𝟙) w)) (sym e)) (span_add (span_scale (neg 𝟙) s) t)

  -- ---- members
  pub span_mem : {x : Vec} {xs : List Vec} → Memᴰ x xs → Span S xs x
  span_mem (Memᴰ.head {xs = xs} e) = cast e (span_head _ xs)
  span_mem (Memᴰ.tail m) = span_weak (span_mem m)

  -- combinations of combinations
  pub span_bind : {xs ys : List Vec} {v : Vec} → ((x : Vec) → Memᴰ x xs → Span S ys x) → Span S xs v → Span S ys v
  span_bind {xs = []} h s = span_none (span_nil s)
  span_bind {xs = x ∷ xs} h s =
      let p = span_uncons s in
      cast p.3 (span_add (span_scale p.0 (h x (Memᴰ.head refl))) (span_bind {xs = xs} (λ y m. h y (Memᴰ.tail m)) p.2))

  pub span_mono : {xs ys : List Vec} {v : Vec} → ((x : Vec) → Memᴰ x xs → Memᴰ x ys) → Span S xs v → Span S ys v
  span_mono h s = span_bind (λ x m. span_mem (h x m)) s

  -- ---- coordinates: one that is 0 in every vector of the list is 0 in each combination
  pub span_coord : {xs : List Vec} {v : Vec} (i : ℕ) → ((x : Vec) → Memᴰ x xs → coord x i ≡ 𝟘) → Span S xs v → coord v i ≡ 𝟘
  span_coord {xs = []} i h s = ap (λ x. coord x i) (span_nil s) ∙ coord_nul i
  span_coord {xs = x ∷ xs} i h s =
      let p = span_uncons s in
      ap (λ y. coord y i) p.3 ∙ coord_add (scale p.0 x) p.1 i
      ∙ ap₂ plus (coord_scale p.0 x i ∙ ap (times p.0) (h x (Memᴰ.head refl)) ∙ times_zero fld p.0)
      (span_coord {xs = xs} i (λ y m. h y (Memᴰ.tail m)) p.2)
      ∙ plus_zero 𝟘
