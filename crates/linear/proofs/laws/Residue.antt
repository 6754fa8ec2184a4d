-- What reduction leaves of a vector, and how it changes when the basis grows.
--   reduce_nul      nothing is left of 0
--   reduce_same     what is 0 at the leads and differs from v by a combination of the rows is what is left of v
--   reduce_insert   what is left after a new row: one `clear` of what was left before
--   insert_residue  what is left of a vector brings in what the vector does
--   residue_span    a larger space has both or none of two vectors of which the same is left
-- Assumes nothing.
use Rattle.std.specs.Prelude.{◌≡◌, ◌≢◌, List}
use Rattle.std.proofs.Common.{sym, ◌∙◌, subst}
use Rattle.std.proofs.Math.Path.{ap}
use Rattle.std.proofs.Math.Bool.{cond}
use Rattle.linear.specs.Space.{Space}
use Rattle.linear.specs.Span.{Span, Within}
use Rattle.linear.specs.Basis.{clear, reduce, norm, place, insert, Zeroed, Reduced}
use Rattle.linear.specs.laws.Space.{add_assoc, nul_add, minus_add}
use Rattle.linear.specs.laws.Span.{cast, span_add, span_scale, span_weak, span_head, span_rest}
use Rattle.linear.proofs.laws.Reduce.{reduce_rest, reduce_zeroed, reduce_done, span_zeroed, clear_at, clear_keep, clear_back}
use Rattle.linear.proofs.laws.Insert.{place_leads, place_span, norm_one, norm_zeroed, insert_new, insert_reduced, insert_span}

module _ (S : Space) where
  open S use {fld, Vec, nul, add, scale, coord, lead, is_nul, coord_nul, coord_add}
  open fld use {K, 𝟘, 𝟙, plus, neg, plus_zero}

  pub reduce_nul : (C : List Vec) → reduce S C nul ≡ nul
  reduce_nul C = reduce_done S C nul (λ b m. coord_nul (lead b))

  -- what is 0 at the leads and differs from m by a combination of the rows is what is left of m
  pub reduce_same : (D : List Vec) → Reduced S D → (m b w : Vec) → Zeroed S w D → m ≡ add b w → Span S D b → reduce S D m ≡ w
  reduce_same D ρ m b w z e s =
      split ∙ ap (λ x. add x w) (span_zeroed S D ρ d d_in d_zero) ∙ nul_add S w
    where
      r : (a : Vec) × Span S D a × (m ≡ add a (reduce S D m))
      r = reduce_rest S D m

      d : Vec
      d = add (scale (neg 𝟙) r.0) b

      split : reduce S D m ≡ add d w
      split =
          sym (minus_add S r.0 (reduce S D m)) ∙ ap (add (scale (neg 𝟙) r.0)) (sym r.2 ∙ e)
          ∙ sym (add_assoc S (scale (neg 𝟙) r.0) b w)

      d_in : Span S D d
      d_in = span_add S (span_scale S (neg 𝟙) r.1) s

      d_zero : Zeroed S d D
      d_zero x k =
          sym (plus_zero (coord d (lead x))) ∙ ap (plus (coord d (lead x))) (sym (z x k)) ∙ sym (coord_add d w (lead x))
          ∙ ap (λ y. coord y (lead x)) (sym split) ∙ reduce_zeroed S D m ρ x k

  pub reduce_insert : (C : List Vec) → Reduced S C → (g m : Vec) → reduce S C g ≢ nul
      → reduce S (insert S C g) m ≡ clear S (norm S (reduce S C g)) (reduce S C m)
  reduce_insert C ρ g m h =
      reduce_same D (insert_reduced S C g ρ) m (add q.0 (scale c r)) w w_zero
      (q.2 ∙ ap (add q.0) (clear_back S r (reduce S C m)) ∙ sym (add_assoc S q.0 (scale c r) w))
      (span_add S (up q.0 q.1) (span_scale S c r_in))
    where
      r : Vec
      r = norm S (reduce S C g)

      D : List Vec
      D = insert S C g

      w : Vec
      w = clear S r (reduce S C m)

      c : K
      c = coord (reduce S C m) (lead r)

      q : (a : Vec) × Span S C a × (m ≡ add a (reduce S C m))
      q = reduce_rest S C m

      one : coord r (lead r) ≡ 𝟙
      one = norm_one S (reduce S C g) h

      rz : Zeroed S r C
      rz = norm_zeroed S (reduce S C g) C (reduce_zeroed S C g ρ)

      up : (v : Vec) → Span S C v → Span S D v
      up v s = (insert_span S C g v).1 (span_weak S s)

      r_in : Span S D r
      r_in = subst (λ X. Span S X r) (sym (insert_new S C g h)) ((place_span S r one C r).1 (span_head S r C))

      w_zero : Zeroed S w D
      w_zero =
          subst (λ X. Zeroed S w X) (sym (insert_new S C g h))
          (place_leads S r one (λ n. coord w n ≡ 𝟘) C ρ rz (clear_at S r (reduce S C m) one)
          (λ b k. clear_keep S r (reduce S C m) (lead b) (rz b k) ∙ reduce_zeroed S C m ρ b k))

  pub insert_residue : (C : List Vec) → Reduced S C → (g : Vec) → insert S C (reduce S C g) ≡ insert S C g
  unfolding insert
  insert_residue C ρ g = ap (λ x. cond (is_nul x) C (place S (norm S x) C)) (reduce_done S C (reduce S C g) (reduce_zeroed S C g ρ))

  pub residue_span : (C W : List Vec) → Within S C W → (u v : Vec) → reduce S C u ≡ reduce S C v → Span S W u → Span S W v
  residue_span C W h u v e s =
      let p = reduce_rest S C u in
      let q = reduce_rest S C v in
      cast S (q.2 ∙ ap (add q.0) (sym e)) (span_add S (h q.0 q.1) (span_rest S p.2 (h p.0 p.1) s))
