-- The value of a target form is the output of the map, kind by kind. Of a matrix product only the pairs i = (t / r) q + z and
-- j = z r + t % r count, so that the double sum is one over z.
-- Assumes nothing.
use Rattle.std.specs.Prelude.{◌≡◌, refl, ◌≢◌, Bool, true, false, ◌&&◌, ℕ, ◌+◌, ◌-◌, ◌*◌, ◌/◌, ◌%◌, ◌^◌, ◌<◌, ◌≤◌, Some}
use Rattle.std.proofs.Common.{sym, ap₂, ◌∙◌, true≢false, div-add-mod', div-lt_iff_lt-mul, mod-lt, arith, eqb-true, eq-eqb, ne_eqb}
use Rattle.std.proofs.Math.Path.{ap}
use Rattle.std.proofs.Math.Arith.{digits_lt, digits_div, digits_mod}
use Rattle.std.proofs.Math.Dec.{eqb}
use Rattle.linear.specs.Bit.{bit}
use Rattle.kinds.specs.Kinds.{is_list}
use Rattle.kinds.specs.declared.Kind.{Kind}
use Rattle.kinds.specs.declared.Kind.TheVariants as kind
use Rattle.kinds.specs.declared.Shape.{Shape}
use Rattle.kinds.specs.Sizes.{shape_of, sizes_for, sizes, within, poly_sizes, mat_sizes}
use Rattle.kinds.specs.laws.Sizes.{given_some, square_some, mid_some, MatWithin, mat_within}
use Rattle.forms.specs.products.laws.Product.{bit_form_of, form_of_below}
use Rattle.maps.specs.Textbook.{sum_to, output_for, output}
use Rattle.maps.specs.Target.{value, pair_for, pair, target_form}
use Rattle.maps.specs.laws.Sum.{sum_same, sum_one, sum_times, sum_blocks}
use Rattle.maps.specs.laws.Value.{sum_over, value_same}

pub target_below : (shape : Shape) (n m t : ℕ) → target_form shape n m t < 2 ^ (n * m)
unfolding target_form
target_below shape n m t = form_of_below (n * m) (λ s. pair shape t (s / m) (s % m))

-- a coordinate of a target form tells whether a_i b_j is a term
pub target_coordinate : (shape : Shape) (n m t i j : ℕ) → i < n → j < m → bit (target_form shape n m t) (i * m + j) ≡ pair shape t i j
unfolding target_form
target_coordinate shape n m t i j a b =
    bit_form_of (n * m) (λ s. pair shape t (s / m) (s % m)) (i * m + j) (digits_lt a b)
    ∙ ap₂ (λ (x y : ℕ). pair shape t x y) (digits_div i b) (digits_mod i b)

-- the value of a target form is the sum of its terms
pub target_sum : (shape : Shape) (n m t : ℕ) (a b : ℕ → Bool)
    → value n m (target_form shape n m t) a b ≡ sum_over n m (pair shape t) a b
target_sum shape n m t a b = value_same n m (target_form shape n m t) (pair shape t) a b (target_coordinate shape n m t)

-- ---- the double sum of a matrix product
module _ (p q r t : ℕ) (a b : ℕ → Bool) (Q : 1 ≤ q) (R : 1 ≤ r) (h : t < p * r) where
  row : t / r < p
  row = (div-lt_iff_lt-mul (let z : 0 < r = omega arith in z)).1 h

  column : t % r < r
  column = mod-lt t (let z : 0 < r = omega arith in z)

  -- the test for a_i b_j, where x, z are the row and column of a_i and j is given
  abbrev test : ℕ → ℕ → ℕ → Bool
  test x z j = eqb x (t / r) && (eqb z (j / r) && eqb (j % r) (t % r))

  test_other : (x z j : ℕ) → j ≢ z * r + t % r → test x z j ≡ false
  test_other x z j n = go (eqb x (t / r)) (eqb z (j / r)) (eqb (j % r) (t % r)) refl refl
    where
      go : (u v w : Bool) → eqb z (j / r) ≡ v → eqb (j % r) (t % r) ≡ w → u && (v && w) ≡ false
      go false v w e f = refl
      go true false w e f = refl
      go true true false e f = refl
      go true true true e f =
          absurd (n (sym (div-add-mod' j r) ∙ ap₂ (λ (x y : ℕ). x * r + y) (sym (eqb-true z (j / r) e)) (eqb-true (j % r) (t % r) f)))

  test_at : (x z : ℕ) → test x z (z * r + t % r) ≡ eqb x (t / r)
  test_at x z =
      ap₂ (λ (u v : Bool). eqb x (t / r) && (u && v))
      (eq-eqb z ((z * r + t % r) / r) (sym (digits_div z column))) (eq-eqb ((z * r + t % r) % r) (t % r) (digits_mod z column))
      ∙ last (eqb x (t / r))
    where
      last : (u : Bool) → u && true ≡ u
      last true = refl
      last false = refl

  -- the terms of one a_i
  of_one : (x z : ℕ) → z < q → sum_to (q * r) (λ j. test x z j && (a (x * q + z) && b j)) ≡ eqb x (t / r) && (a (x * q + z) && b (z * r + t % r))
  of_one x z l =
      sum_one (q * r) (λ j. test x z j && (a (x * q + z) && b j)) (z * r + t % r) (digits_lt l column)
      (λ j k n. ap (λ (u : Bool). u && (a (x * q + z) && b j)) (test_other x z j n))
      ∙ ap (λ (u : Bool). u && (a (x * q + z) && b (z * r + t % r))) (test_at x z)

  abbrev entry : ℕ → ℕ → Bool
  entry x z = a (x * q + z) && b (z * r + t % r)

  -- the terms of a_i
  abbrev of : ℕ → Bool
  of i = sum_to (q * r) (λ j. test (i / q) (i % q) j && (a i && b j))

  -- the terms of one row of the first factor
  of_row : (x : ℕ) → sum_to q (λ z. of (x * q + z)) ≡ eqb x (t / r) && sum_to q (entry x)
  of_row x =
      sum_same q (λ z. of (x * q + z)) (λ z. eqb x (t / r) && entry x z)
      (λ z l. ap₂ (λ (u v : ℕ). sum_to (q * r) (λ j. test u v j && (a (x * q + z) && b j))) (digits_div x l) (digits_mod x l) ∙ of_one x z l)
      ∙ sum_times q (eqb x (t / r)) (entry x)

  pub matrix_sum : sum_over (p * q) (q * r) (pair_for kind.Mat p q r t) a b ≡ output_for kind.Mat p q r a b t
  unfolding pair_for output_for
  matrix_sum =
      sum_blocks p q of ∙ sum_same p (λ x. sum_to q (λ z. of (x * q + z))) (λ x. eqb x (t / r) && sum_to q (entry x)) (λ x l. of_row x)
      ∙ sum_one p (λ x. eqb x (t / r) && sum_to q (entry x)) (t / r) row (λ x l n. ap (λ (u : Bool). u && sum_to q (entry x)) (ne_eqb x (t / r) n))
      ∙ ap (λ (u : Bool). u && sum_to q (entry (t / r))) (eq-eqb (t / r) (t / r) refl)

-- ---- every kind
resized : (c : ℕ → ℕ → Bool) (a b : ℕ → Bool) (x y w n m u : ℕ) → ◌≡◌ {A = ℕ × ℕ × ℕ} (x, y, w) (n, m, u) → sum_over n m c a b ≡ sum_over x y c a b
resized c a b x y w n m u e =
    ap₂ (λ (x y : ℕ). sum_over x y c a b) (sym (ap (λ (z : ℕ × ℕ × ℕ). z.0) e)) (sym (ap (λ (z : ℕ × ℕ × ℕ). z.1) e))

each_value : (k : Kind) (p q r n m u : ℕ) → sizes_for k p q r ≡ Some (n, m, u) → (t : ℕ) → t < u → is_list k ≡ false → (a b : ℕ → Bool)
    → value n m (target_form (shape_of k p q r) n m t) a b ≡ output_for k p q r a b t
unfolding poly_sizes mat_sizes pair_for output_for
each_value kind.Poly p q r n m u e t l d a b =
    let g = given_some (eqb r 0 && within p q) (p, q, p + q - 1) (n, m, u) e in
    target_sum (shape_of kind.Poly p q r) n m t a b ∙ resized (pair_for kind.Poly p q r t) a b p q (p + q - 1) n m u g.1
each_value kind.Short p q r n m u e t l d a b =
    target_sum (shape_of kind.Short p q r) n m t a b ∙ resized (pair_for kind.Short p q r t) a b p q p n m u (square_some p q r (n, m, u) e).1
each_value kind.Circ p q r n m u e t l d a b =
    target_sum (shape_of kind.Circ p q r) n m t a b ∙ resized (pair_for kind.Circ p q r t) a b p q p n m u (square_some p q r (n, m, u) e).1
each_value kind.Mat p q r n m u e t l d a b =
    let g = given_some (within (p * q) (q * r)) (p * q, q * r, p * r) (n, m, u) e in
    let M : MatWithin p q r = mat_within p q r g.0 in
    let f : p * r ≡ u = ap (λ (z : ℕ × ℕ × ℕ). z.2) g.1 in
    target_sum (shape_of kind.Mat p q r) n m t a b
    ∙ resized (pair_for kind.Mat p q r t) a b (p * q) (q * r) (p * r) n m u g.1
    ∙ matrix_sum p q r t a b M.left.second M.right.second (omega arith)
each_value kind.List p q r n m u e t l d a b = absurd (true≢false d)
each_value kind.Mid p q r n m u e t l d a b =
    target_sum (shape_of kind.Mid p q r) n m t a b ∙ resized (pair_for kind.Mid p q r t) a b p q p n m u (mid_some p q r (n, m, u) e).1

pub target_value : (shape : Shape) (n m u : ℕ) → sizes shape ≡ Some (n, m, u) → (t : ℕ) → t < u → is_list shape.kind ≡ false → (a b : ℕ → Bool)
    → value n m (target_form shape n m t) a b ≡ output shape a b t
target_value shape n m u e t l d a b = each_value shape.kind shape.p shape.q shape.r n m u e t l d a b
