-- What sizes that fit are like.
--   sizes_bounds   n, m and the outputs are at least 1; n × m and the outputs are at most 64
--   list_bits      a list's n is its p
--   list_outputs   a list has as many outputs as targets
--   map_few        p, q and r are at most 64, but for list
--   poly_some, square_some, mid_some   what sizes of poly, of short and circ, and of mid, say of p, q and r
-- Assumes nothing.
use Rattle.std.specs.Prelude.{◌≡◌, refl, Bool, true, false, ℕ, zero, suc, ◌+◌, ◌-◌, ◌*◌, ◌/◌, ◌≤◌, leb, eqb, Option, None, Some}
use Rattle.std.proofs.Common.{sym, ap, ap₂, ◌∙◌, subst, true≢false, le-mul_of_pos_right, mul_comm, mul-le-mul, suc-mul, le-div_iff_mul-le, arith, leb-true, le-leb, eqb-true, eq-eqb}
use Rattle.std.proofs.Math.Bool.{◌&&◌, and-eq-true_iff}
use Rattle.std.proofs.lemmas.Bool.{false≢true, lt-leb}
use Rattle.std.proofs.Math.Nat.{one-le-mul}
use Rattle.std.proofs.Math.Decide.{dec_le}
use Rattle.kinds.specs.Kinds.{is_list}
use Rattle.kinds.specs.Sizes.{given, within, poly_sizes, square_sizes, mat_sizes, list_sizes, mid_sizes, sizes_for, sizes}
use Rattle.kinds.specs.declared.Kind.{Kind}
use Rattle.kinds.specs.declared.Kind.TheVariants as kind
use Rattle.kinds.specs.declared.Shape.{Shape}

-- ---- tests
pub both : (a b : Bool) → a && b ≡ true → (a ≡ true) × (b ≡ true)
both a b e = (and-eq-true_iff a b).0 e

-- a test that leads to the absurd is false
pub is_not : (t : Bool) → (t ≡ true → ⊥) → t ≡ false
is_not true h = absurd (h refl)
is_not false h = refl

pub given_yes : {A : Type 0} (t : Bool) (x : A) → t ≡ true → given t x ≡ Some x
given_yes t x e = ap (λ (b : Bool). given b x) e

pub given_no : {A : Type 0} (t : Bool) (x : A) → (t ≡ true → ⊥) → given t x ≡ None
given_no t x h = ap (λ (b : Bool). given b x) (is_not t h)

pub given_some : {A : Type 0} (t : Bool) (x y : A) → given t x ≡ Some y → (t ≡ true) × (x ≡ y)
given_some true x y e = (refl, cc)
given_some false x y e = absurd (let z : ◌≡◌ {A = ℕ} 0 1 = cc in omega arith)

-- ---- within
pub record Within (x y : ℕ) : Type 0 where
  pub first : 1 ≤ x
  pub second : 1 ≤ y
  pub product : x * y ≤ 64
  pub first_most : x ≤ 64
  pub second_most : y ≤ 64

pub within_facts : (x y : ℕ) → 1 ≤ x → 1 ≤ y → x * y ≤ 64 → Within x y
within_facts x y a b c =
    record {
      first = a;
      second = b;
      product = c;
      first_most = omega (arith, le-mul_of_pos_right {m = y} x (omega arith));
      second_most = omega (arith, le-mul_of_pos_right {m = x} y (omega arith), mul_comm y x);
    }

pub within_yes : (x y : ℕ) → within x y ≡ true → Within x y
unfolding within
within_yes x y e =
    let p = both (leb 1 x) (leb 1 y && leb (x * y) 64) e in
    let q = both (leb 1 y) (leb (x * y) 64) p.1 in
    within_facts x y (leb-true 1 x p.0) (leb-true 1 y q.0) (leb-true (x * y) 64 q.1)

pub yes_within : (x y : ℕ) → 1 ≤ x → 1 ≤ y → x * y ≤ 64 → within x y ≡ true
unfolding within
yes_within x y a b c = ap₂ ◌&&◌ (le-leb 1 x a) (ap₂ ◌&&◌ (le-leb 1 y b) (le-leb (x * y) 64 c))

-- the test without the product
pub within_quotient : (x y : ℕ) → 1 ≤ x → 1 ≤ y → within x y ≡ leb y (64 / x)
within_quotient x y a b = go (dec_le y (64 / x))
  where
    go : Dec (y ≤ 64 / x) → within x y ≡ leb y (64 / x)
    go (yes h) = yes_within x y a b (let k : y * x ≤ 64 = (le-div_iff_mul-le (omega arith)).0 h in omega (arith, k, mul_comm x y)) ∙ sym (le-leb y (64 / x) h)
    go (no h) =
        is_not (within x y) (λ e. h ((le-div_iff_mul-le (omega arith)).1 (let k : x * y ≤ 64 = (within_yes x y e).product in omega (arith, k, mul_comm x y))))
        ∙ sym (lt-leb y (64 / x) (omega arith))

-- of a matrix product: each of the two products fits by itself
factor_pos : (x y : ℕ) → 1 ≤ x * y → (1 ≤ x) × (1 ≤ y)
factor_pos zero y h = absurd (omega arith)
factor_pos (suc x) zero h = absurd (omega (arith, mul_comm (suc x) 0))
factor_pos (suc x) (suc y) h = (omega arith, omega arith)

pub record MatWithin (p q r : ℕ) : Type 0 where
  pub left : Within p q
  pub right : Within q r
  pub whole : Within (p * q) (q * r)
  pub outputs : Within p r

pub within_of : (x y : ℕ) → Within x y → within x y ≡ true
within_of x y W = yes_within x y W.first W.second W.product

pub mat_within : (p q r : ℕ) → within (p * q) (q * r) ≡ true → MatWithin p q r
mat_within p q r e =
    let W : Within (p * q) (q * r) = within_yes (p * q) (q * r) e in
    let a = factor_pos p q W.first in
    let b = factor_pos q r W.second in
    let c : 1 ≤ p = a.0 in
    let d : 1 ≤ q = a.1 in
    let f : 1 ≤ r = b.1 in
    let g : p * r ≤ p * q * (q * r) = mul-le-mul (le-mul_of_pos_right {m = q} p (omega arith)) (omega (arith, le-mul_of_pos_right {m = q} r (omega arith), mul_comm r q)) in
    record {
      left = within_facts p q c d W.first_most;
      right = within_facts q r d f W.second_most;
      whole = W;
      outputs = within_facts p r c f (let h : p * q * (q * r) ≤ 64 = W.product in omega arith);
    }

-- ---- short, circ and mid: r is 0, two numbers x and y are equal, p × q is within, and the outputs are as many as the a's
pub record Tied (x y p q r : ℕ) : Type 0 where
  pub third : r ≡ 0
  pub tie : x ≡ y
  pub fits : Within p q

module _ (x y p q r : ℕ) where
  abbrev tied : Option (ℕ × ℕ × ℕ)
  tied = given (eqb r 0 && (eqb x y && within p q)) (p, q, p)

  tied_yes : eqb r 0 && (eqb x y && within p q) ≡ true → Tied x y p q r
  tied_yes e =
      let t = both (eqb r 0) (eqb x y && within p q) e in
      let u = both (eqb x y) (within p q) t.1 in
      record { third = eqb-true r 0 t.0; tie = eqb-true x y u.0; fits = within_yes p q u.1 }

  tied_is : Tied x y p q r → tied ≡ Some (p, q, p)
  tied_is T =
      given_yes (eqb r 0 && (eqb x y && within p q)) (p, q, p)
      (ap₂ ◌&&◌ (eq-eqb r 0 T.third) (ap₂ ◌&&◌ (eq-eqb x y T.tie) (within_of p q T.fits)))

  tied_not : (Tied x y p q r → ⊥) → tied ≡ None
  tied_not h = given_no (eqb r 0 && (eqb x y && within p q)) (p, q, p) (λ e. h (tied_yes e))

  tied_some : (z : ℕ × ℕ × ℕ) → tied ≡ Some z → Tied x y p q r × ((p, q, p) ≡ z)
  tied_some z e = let g = given_some (eqb r 0 && (eqb x y && within p q)) (p, q, p) z e in (tied_yes g.0, g.1)

-- ---- each kind, from its tests
module _ (p q r : ℕ) where
  pub poly_is : r ≡ 0 → within p q ≡ true → poly_sizes p q r ≡ Some (p, q, p + q - 1)
  unfolding poly_sizes
  poly_is a b = given_yes (eqb r 0 && within p q) (p, q, p + q - 1) (ap₂ ◌&&◌ (eq-eqb r 0 a) b)

  pub poly_not : (r ≡ 0 → within p q ≡ true → ⊥) → poly_sizes p q r ≡ None
  unfolding poly_sizes
  poly_not h = given_no (eqb r 0 && within p q) (p, q, p + q - 1) (λ e. let t = both (eqb r 0) (within p q) e in h (eqb-true r 0 t.0) t.1)

  pub poly_some : (z : ℕ × ℕ × ℕ) → poly_sizes p q r ≡ Some z → (r ≡ 0) × Within p q × ((p, q, p + q - 1) ≡ z)
  unfolding poly_sizes
  poly_some z e =
      let g = given_some (eqb r 0 && within p q) (p, q, p + q - 1) z e in
      let t = both (eqb r 0) (within p q) g.0 in
      (eqb-true r 0 t.0, within_yes p q t.1, g.1)

  pub square_is : Tied p q p q r → square_sizes p q r ≡ Some (p, q, p)
  unfolding square_sizes
  square_is T = tied_is p q p q r T

  pub square_not : (Tied p q p q r → ⊥) → square_sizes p q r ≡ None
  unfolding square_sizes
  square_not h = tied_not p q p q r h

  pub square_some : (z : ℕ × ℕ × ℕ) → square_sizes p q r ≡ Some z → Tied p q p q r × ((p, q, p) ≡ z)
  unfolding square_sizes
  square_some z e = tied_some p q p q r z e

  pub mid_is : Tied q (2 * p - 1) p q r → mid_sizes p q r ≡ Some (p, q, p)
  unfolding mid_sizes
  mid_is T = tied_is q (2 * p - 1) p q r T

  pub mid_not : (Tied q (2 * p - 1) p q r → ⊥) → mid_sizes p q r ≡ None
  unfolding mid_sizes
  mid_not h = tied_not q (2 * p - 1) p q r h

  pub mid_some : (z : ℕ × ℕ × ℕ) → mid_sizes p q r ≡ Some z → Tied q (2 * p - 1) p q r × ((p, q, p) ≡ z)
  unfolding mid_sizes
  mid_some z e = tied_some q (2 * p - 1) p q r z e

  pub mat_is : within (p * q) (q * r) ≡ true → mat_sizes p q r ≡ Some (p * q, q * r, p * r)
  unfolding mat_sizes
  mat_is a = given_yes (within (p * q) (q * r)) (p * q, q * r, p * r) a

  pub mat_not : (MatWithin p q r → ⊥) → mat_sizes p q r ≡ None
  unfolding mat_sizes
  mat_not h = given_no (within (p * q) (q * r)) (p * q, q * r, p * r) (λ e. h (mat_within p q r e))

  pub list_is : 1 ≤ q → within p 1 ≡ true → within r 1 ≡ true → list_sizes p q r ≡ Some (p, 1, r)
  unfolding list_sizes
  list_is a b c = given_yes (leb 1 q && (within p 1 && within r 1)) (p, 1, r) (ap₂ ◌&&◌ (le-leb 1 q a) (ap₂ ◌&&◌ b c))

  pub list_not : (1 ≤ q → within p 1 ≡ true → within r 1 ≡ true → ⊥) → list_sizes p q r ≡ None
  unfolding list_sizes
  list_not h =
      given_no (leb 1 q && (within p 1 && within r 1)) (p, 1, r)
      (λ e. let t = both (leb 1 q) (within p 1 && within r 1) e in let u = both (within p 1) (within r 1) t.1 in h (leb-true 1 q t.0) u.0 u.1)

-- ---- every kind
pub record Bounds (n m t : ℕ) : Type 0 where
  pub fits : Within n m
  pub some_output : 1 ≤ t
  pub most_outputs : t ≤ 64

abbrev Bounded : ℕ × ℕ × ℕ → Type 0
Bounded z = Bounds z.0 z.1 z.2

poly_bounds : (p q r : ℕ) (z : ℕ × ℕ × ℕ) → poly_sizes p q r ≡ Some z → Bounded z
poly_bounds p q r z e =
    let g = poly_some p q r z e in
    let W = g.1 in
    subst Bounded g.2 (record { fits = W; some_output = omega (arith, W.first, W.second); most_outputs = sum p q W })
  where
    -- of two numbers at least 1, the sum is at most 1 and the product more
    sum : (p q : ℕ) → Within p q → p + q - 1 ≤ 64
    sum zero q W = absurd (let a = W.first in omega arith)
    sum (suc p) q W = let a = W.second in let b = W.product in let c : p ≤ p * q = le-mul_of_pos_right {m = q} p (omega arith) in omega (arith, b, c, suc-mul p q)

tied_bounds : {x y p q r : ℕ} {z : ℕ × ℕ × ℕ} → Tied x y p q r × ((p, q, p) ≡ z) → Bounded z
tied_bounds g =
    let W = g.0.fits in subst Bounded g.1 (record { fits = W; some_output = W.first; most_outputs = W.first_most })

mat_bounds : (p q r : ℕ) (z : ℕ × ℕ × ℕ) → mat_sizes p q r ≡ Some z → Bounded z
unfolding mat_sizes
mat_bounds p q r z e =
    let g = given_some (within (p * q) (q * r)) (p * q, q * r, p * r) z e in
    let M : MatWithin p q r = mat_within p q r g.0 in
    subst Bounded g.1 (record { fits = M.whole; some_output = one-le-mul M.outputs.first M.outputs.second; most_outputs = M.outputs.product })

list_bounds : (p q r : ℕ) (z : ℕ × ℕ × ℕ) → list_sizes p q r ≡ Some z → Bounded z
unfolding list_sizes
list_bounds p q r z e =
    let g = given_some (leb 1 q && (within p 1 && within r 1)) (p, 1, r) z e in
    let t = both (within p 1) (within r 1) (both (leb 1 q) (within p 1 && within r 1) g.0).1 in
    let R : Within r 1 = within_yes r 1 t.1 in
    subst Bounded g.1 (record { fits = within_yes p 1 t.0; some_output = R.first; most_outputs = R.first_most })

each_bounds : (k : Kind) (p q r : ℕ) (z : ℕ × ℕ × ℕ) → sizes_for k p q r ≡ Some z → Bounded z
each_bounds kind.Poly p q r z e = poly_bounds p q r z e
each_bounds kind.Short p q r z e = tied_bounds (square_some p q r z e)
each_bounds kind.Circ p q r z e = tied_bounds (square_some p q r z e)
each_bounds kind.Mat p q r z e = mat_bounds p q r z e
each_bounds kind.List p q r z e = list_bounds p q r z e
each_bounds kind.Mid p q r z e = tied_bounds (mid_some p q r z e)

pub sizes_bounds : (shape : Shape) (z : ℕ × ℕ × ℕ) → sizes shape ≡ Some z → Bounds z.0 z.1 z.2
sizes_bounds shape z e = each_bounds shape.kind shape.p shape.q shape.r z e

-- of a list n is p, and the outputs are its r targets
each_list : (k : Kind) (p q r : ℕ) (z : ℕ × ℕ × ℕ) → is_list k ≡ true → sizes_for k p q r ≡ Some z → (p, 1, r) ≡ z
unfolding list_sizes
each_list kind.Poly p q r z k e = absurd (false≢true k)
each_list kind.Short p q r z k e = absurd (false≢true k)
each_list kind.Circ p q r z k e = absurd (false≢true k)
each_list kind.Mat p q r z k e = absurd (false≢true k)
each_list kind.List p q r z k e = (given_some (leb 1 q && (within p 1 && within r 1)) (p, 1, r) z e).1
each_list kind.Mid p q r z k e = absurd (false≢true k)

pub list_bits : (shape : Shape) (z : ℕ × ℕ × ℕ) → is_list shape.kind ≡ true → sizes shape ≡ Some z → shape.p ≡ z.0
list_bits shape z k e = ap (λ (x : ℕ × ℕ × ℕ). x.0) (each_list shape.kind shape.p shape.q shape.r z k e)

pub list_outputs : (shape : Shape) (z : ℕ × ℕ × ℕ) → is_list shape.kind ≡ true → sizes shape ≡ Some z → shape.r ≡ z.2
list_outputs shape z k e = ap (λ (x : ℕ × ℕ × ℕ). x.2) (each_list shape.kind shape.p shape.q shape.r z k e)

-- ---- p, q and r of a map
pub record FewSizes (p q r : ℕ) : Type 0 where
  pub first : p ≤ 64
  pub second : q ≤ 64
  pub third : r ≤ 64

few_within : {p q r : ℕ} → Within p q → r ≡ 0 → FewSizes p q r
few_within W z = record { first = W.first_most; second = W.second_most; third = omega arith }

each_few : (k : Kind) (p q r : ℕ) (z : ℕ × ℕ × ℕ) → is_list k ≡ false → sizes_for k p q r ≡ Some z → FewSizes p q r
unfolding mat_sizes
each_few kind.Poly p q r z k e = let g = poly_some p q r z e in few_within g.1 g.0
each_few kind.Short p q r z k e = let T = (square_some p q r z e).0 in few_within T.fits T.third
each_few kind.Circ p q r z k e = let T = (square_some p q r z e).0 in few_within T.fits T.third
each_few kind.Mat p q r z k e =
    let M : MatWithin p q r = mat_within p q r (given_some (within (p * q) (q * r)) (p * q, q * r, p * r) z e).0 in
    record { first = M.left.first_most; second = M.left.second_most; third = M.right.second_most }
each_few kind.List p q r z k e = absurd (true≢false k)
each_few kind.Mid p q r z k e = let T = (mid_some p q r z e).0 in few_within T.fits T.third

pub map_few : (shape : Shape) (z : ℕ × ℕ × ℕ) → is_list shape.kind ≡ false → sizes shape ≡ Some z → FewSizes shape.p shape.q shape.r
map_few shape z k e = each_few shape.kind shape.p shape.q shape.r z k e
