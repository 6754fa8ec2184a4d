-- Outputs that may be asked for: those of sizes that are not refused.
--   Accepted shape n m t   == the sizes fit and make n and m variables, and t is below the number of outputs
--   Terms shape t i j      == sizes, output and variables for which a_i b_j can be tested
--   accepted_fits          then n and m are at least 1, and n × m is at most 64
--   accepted_terms         an accepted output can be tested at each of its n × m pairs
--   accepted_in_table, accepted_square   of poly p,p, size and output stand in the table of squares, and the target form is that of the table
-- Assumes nothing.
use Rattle.std.specs.Prelude.{◌≡◌, ℕ, ◌+◌, ◌-◌, ◌*◌, ◌/◌, ◌%◌, ◌<◌, ◌≤◌, Some}
use Rattle.std.proofs.Common.{sym, ap, ap₂, ◌∙◌, subst, div-le_self, mul-le-mul, arith}
use Rattle.std.proofs.Math.Nat.{mod-le}
use Rattle.std.proofs.Math.Decide.{dec_le}
use Rattle.kinds.specs.declared.Kind.{Kind}
use Rattle.kinds.specs.declared.Kind.TheVariants as kind
use Rattle.kinds.specs.declared.Shape.{Shape}
use Rattle.kinds.specs.Sizes.{shape_of, sizes_for, sizes, within, poly_sizes, mat_sizes}
use Rattle.kinds.specs.laws.Sizes.{Within, poly_some, square_some, mid_some, MatWithin, mat_within, sizes_bounds, given_some}
use Rattle.maps.specs.Target.{target_form}
use Rattle.maps.specs.Squares.{InTable}

-- Document 01's table: "for t below n + m − 1", "t below n"; document 02: "output t below n"; a size that misfits is refusal 3
pub record Accepted (shape : Shape) (n m t : ℕ) : Type 0 where
  pub outputs : ℕ
  pub sized : sizes shape ≡ Some (n, m, outputs)
  pub asked : t < outputs

-- no divisor is 0, nothing is taken from 0, and sums are small
pub record Terms (shape : Shape) (t i j : ℕ) : Type 0 where
  pub circle : shape.kind ≡ kind.Circ → 0 < shape.p
  pub inner : shape.kind ≡ kind.Mat → 0 < shape.q
  pub columns : shape.kind ≡ kind.Mat → 0 < shape.r
  pub middle : shape.kind ≡ kind.Mid → Within shape.p shape.q
  pub asked : t < 64
  pub left : i < 64
  pub right : j < 64

-- ---- what sizes that fit say, kind by kind
module _ (p q r : ℕ) (z : ℕ × ℕ × ℕ) where
  matrix_pos : mat_sizes p q r ≡ Some z → MatWithin p q r
  unfolding mat_sizes
  matrix_pos h = mat_within p q r (given_some (within (p * q) (q * r)) (p * q, q * r, p * r) z h).0

module _ (shape : Shape) (n m t : ℕ) (A : Accepted shape n m t) where
  pub accepted_fits : Within n m
  accepted_fits = (sizes_bounds shape (n, m, A.outputs) A.sized).fits

  sized_as : (k : Kind) → shape.kind ≡ k → sizes_for k shape.p shape.q shape.r ≡ Some (n, m, A.outputs)
  sized_as k e = subst (λ (x : Kind). sizes_for x shape.p shape.q shape.r ≡ Some (n, m, A.outputs)) e A.sized

  matrix_of : shape.kind ≡ kind.Mat → MatWithin shape.p shape.q shape.r
  matrix_of e = matrix_pos shape.p shape.q shape.r (n, m, A.outputs) (sized_as kind.Mat e)

  pub accepted_terms : (s : ℕ) → s < n * m → Terms shape t (s / m) (s % m)
  accepted_terms s h =
      let b = accepted_fits.product in
      record {
        circle = λ e. (square_some shape.p shape.q shape.r (n, m, A.outputs) (sized_as kind.Circ e)).0.fits.first;
        inner = λ e. (matrix_of e).left.second;
        columns = λ e. (matrix_of e).right.second;
        middle = λ e. (mid_some shape.p shape.q shape.r (n, m, A.outputs) (sized_as kind.Mid e)).0.fits;
        asked = omega (arith, A.asked, (sizes_bounds shape (n, m, A.outputs) A.sized).most_outputs);
        left = omega (arith, b, div-le_self s m);
        right = omega (arith, b, mod-le s m);
      }

-- ---- square poly sizes
root : (p : ℕ) → p * p ≤ 64 → p ≤ 8
root p h = go (dec_le p 8)
  where
    go : Dec (p ≤ 8) → p ≤ 8
    go (yes l) = l
    go (no l) = absurd (let g : 9 * 9 ≤ p * p = (let b : 9 ≤ p = omega arith in mul-le-mul b b) in omega arith)

module _ (p q r n m u t : ℕ) (h : poly_sizes p q r ≡ Some (n, m, u)) (e : p ≡ q) where
  facts : (r ≡ 0) × Within p q × (◌≡◌ {A = ℕ × ℕ × ℕ} (p, q, p + q - 1) (n, m, u))
  facts = poly_some p q r (n, m, u) h

  in_table : t < u → InTable p t
  in_table l =
      let W = facts.1 in
      let a : p + q - 1 ≡ u = ap (λ (z : ℕ × ℕ × ℕ). z.2) facts.2 in
      let s : p * p ≡ p * q = ap (λ (x : ℕ). p * x) e in
      record { some = W.first; most = root p (omega (arith, s, W.product)); coefficient = omega (arith, a, e, l) }

  square_form : target_form (shape_of kind.Poly p q r) n m t ≡ target_form (shape_of kind.Poly p p 0) p p t
  square_form =
      let N : n ≡ p = sym (ap (λ (z : ℕ × ℕ × ℕ). z.0) facts.2) in
      let M : m ≡ p = sym (ap (λ (z : ℕ × ℕ × ℕ). z.1) facts.2) ∙ sym e in
      ap₂ (λ (x y : ℕ). target_form (shape_of kind.Poly p x y) n m t) (sym e) facts.0 ∙ ap₂ (λ (x y : ℕ). target_form (shape_of kind.Poly p p 0) x y t) N M

module _ (shape : Shape) (n m t : ℕ) (A : Accepted shape n m t) (K : shape.kind ≡ kind.Poly) (e : shape.p ≡ shape.q) where
  as_poly : poly_sizes shape.p shape.q shape.r ≡ Some (n, m, A.outputs)
  as_poly = sized_as shape n m t A kind.Poly K

  pub accepted_in_table : InTable shape.p t
  accepted_in_table = in_table shape.p shape.q shape.r n m A.outputs t as_poly e A.asked

  pub accepted_square : target_form shape n m t ≡ target_form (shape_of kind.Poly shape.p shape.p 0) shape.p shape.p t
  accepted_square =
      ap (λ (x : Kind). target_form (shape_of x shape.p shape.q shape.r) n m t) K
      ∙ square_form shape.p shape.q shape.r n m A.outputs t as_poly e
