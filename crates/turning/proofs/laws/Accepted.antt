-- What an accepted turning has been through, and that its formula is admitted as a middle product formula.
--   Turnable, turnable_inv  the tests of 2 and 3
--   full_is                 an admitted formula that passes them is full_of p
--   TurnedSo, turning_inv   the tests of the refusals, one by one, of the formula full_of p
--   turned_handed           what Check asks of the turned formula
-- Assumes nothing.
use Rattle.std.specs.Prelude.{◌≡◌, refl, Bool, true, false, not, ◌||◌, List, [], ◌∷◌, map, ℕ, zero, suc, ◌+◌, ◌-◌, ◌*◌, ◌^◌, ◌<◌, length, eqb, ltb, Option, None, Some}
use Rattle.std.proofs.Common.{sym, ap, ap₂, ◌∙◌, subst, arith, eqb-true, ne_eqb, lt-ltb, ltb-true}
use Rattle.std.proofs.lemmas.List.{length-map}
use Rattle.std.proofs.lemmas.Bool.{eqb-false, not-false}
use Rattle.kinds.specs.Kinds.{number_of, kind_numbered, kind_numbered_law}
use Rattle.kinds.specs.Limits.{most_products}
use Rattle.kinds.specs.Refusal.{accepted}
use Rattle.kinds.specs.Sizes.{poly_sizes, sizes_for, shape_of, sizes}
use Rattle.kinds.specs.laws.Refusal.{accepted_inj, need_inv, refuse_inv, follow_inv, neither}
use Rattle.kinds.specs.laws.Sizes.{Within, poly_some, mid_some}
use Rattle.kinds.specs.declared.Kind.{Kind}
use Rattle.kinds.specs.declared.Kind.TheVariants as kind
use Rattle.words.specs.Masks.{wide, zero_in}
use Rattle.maps.specs.Generators.{list_of, length_list_of}
use Rattle.formula_check.specs.Formula.{Admitted, formula_of, admit, lists_handed, too_short}
use Rattle.formula_check.proofs.laws.Admitted.{HandedSo, handed_inv}
use Rattle.turning.specs.Turning.{reversed, column, columns, middle_of, turned, is_poly, turnable, turned_into, turning}
use Rattle.turning.specs.Lent.{full_of}
use Rattle.turning.proofs.laws.Bits.{reversed_below, reversed_nonzero, column_below}

-- ---- masks that are made
listed_narrow : (f : ℕ → ℕ) (w i c : ℕ) → ((l : ℕ) → f l < 2 ^ w) → wide w (list_of f i c) ≡ false
unfolding wide list_of
listed_narrow f w i zero h = refl
listed_narrow f w i (suc c) h = ap₂ (λ (x y : Bool). not x || y) (lt-ltb (f i) (2 ^ w) (h i)) (listed_narrow f w (suc i) c h)

reversed_narrow : (n : ℕ) (xs : List ℕ) → wide n (map (reversed n) xs) ≡ false
unfolding wide
reversed_narrow n [] = refl
reversed_narrow n (x ∷ xs) = ap₂ (λ (x y : Bool). not x || y) (lt-ltb (reversed n x) (2 ^ n) (reversed_below n x)) (reversed_narrow n xs)

reversed_some : (n : ℕ) (xs : List ℕ) → wide n xs ≡ false → zero_in xs ≡ false → zero_in (map (reversed n) xs) ≡ false
unfolding wide zero_in
reversed_some n [] W Z = refl
reversed_some n (x ∷ xs) W Z =
    let a = neither (not (ltb x (2 ^ n))) (wide n xs) W in
    let b = neither (eqb x 0) (zero_in xs) Z in
    ap₂ ◌||◌ (ne_eqb (reversed n x) 0 (reversed_nonzero n x (ltb-true x (2 ^ n) (not-false (ltb x (2 ^ n)) a.0)) (eqb-false x 0 b.0)))
    (reversed_some n xs a.1 b.1)

-- ---- 2 and 3
poly_named : (o : Option Kind) → is_poly o ≡ true → o ≡ Some kind.Poly
poly_named None e = absurd (let z : ◌≡◌ {A = ℕ} 0 1 = cc in omega arith)
poly_named (Some k) e = sym (kind_numbered_law k) ∙ ap kind_numbered (eqb-true (number_of k) 0 e) ∙ kind_numbered_law kind.Poly

pub record Turnable (named : Option Kind) (p q r : ℕ) : Type 0 where
  pub is_poly_law : named ≡ Some kind.Poly
  pub square : p ≡ q
  pub middle : sizes (middle_of p) ≡ Some (p, 2 * p - 1, p)

pub turnable_inv : (named : Option Kind) (p q r : ℕ) → turnable named p q r ≡ accepted tt → Turnable named p q r
unfolding turnable
turnable_inv named p q r e =
    let a = refuse_inv 2 (not (is_poly named)) _ tt e in
    let b = need_inv 3 (sizes (shape_of kind.Poly p q r)) _ tt a.1 in
    let c = refuse_inv 3 (not (eqb p q)) _ tt b.2 in
    let d = need_inv 3 (sizes (middle_of p)) _ tt c.1 in
    record {
      is_poly_law = poly_named named (not-false (is_poly named) a.0);
      square = eqb-true p q (not-false (eqb p q) c.0);
      middle = d.1 ∙ ap Some (sym (mid_some p (2 * p - 1) 0 d.0 d.1).1);
    }

-- ---- all of them
pub record TurnedSo (number p q r k : ℕ) (xs ys rows : List ℕ) (g : Admitted) : Type 0 where
  pub admitted : admit (kind_numbered number) p q r k (lists_handed k xs ys rows) ≡ accepted (full_of p xs ys rows)
  pub sized : sizes (shape_of kind.Poly p p 0) ≡ Some (p, p, length rows)
  pub middle : sizes (middle_of p) ≡ Some (p, 2 * p - 1, p)
  pub outputs : length rows ≡ 2 * p - 1
  pub products : length xs ≡ k
  pub pairs : length ys ≡ k
  pub narrow : wide p xs ≡ false
  pub nonzero : zero_in xs ≡ false
  pub few : ltb most_products k ≡ false
  pub used : zero_in (columns rows k) ≡ false
  pub is : turned (full_of p xs ys rows) ≡ g

-- an admitted formula of poly p,p
module _ {number p q r k : ℕ} {xs ys rows : List ℕ} {f : Admitted} (H : HandedSo number p q r k xs ys rows f) (T : Turnable (kind_numbered number) p q r) where
  kind_is : H.kd ≡ kind.Poly
  kind_is = let a = H.named in let b = T.is_poly_law in cc

  as_poly : poly_sizes p q r ≡ Some (H.n, H.m, length rows)
  as_poly = subst (λ (x : Kind). sizes_for x p q r ≡ Some (H.n, H.m, length rows)) kind_is H.sized

  facts : (r ≡ 0) × Within p q × (◌≡◌ {A = ℕ × ℕ × ℕ} (p, q, p + q - 1) (H.n, H.m, length rows))
  facts = poly_some p q r (H.n, H.m, length rows) as_poly

  n_is : H.n ≡ p
  n_is = sym (ap (λ (z : ℕ × ℕ × ℕ). z.0) facts.2)

  m_is : H.m ≡ p
  m_is = sym (ap (λ (z : ℕ × ℕ × ℕ). z.1) facts.2) ∙ sym T.square

  pub full_is : f ≡ full_of p xs ys rows
  full_is =
      sym H.is ∙ ap (λ (x : Kind). formula_of (shape_of x p q r) H.n H.m xs ys rows) kind_is
      ∙ ap₂ (λ (x y : ℕ). formula_of (shape_of kind.Poly p x y) H.n H.m xs ys rows) (sym T.square) facts.0
      ∙ ap₂ (λ (x y : ℕ). formula_of (shape_of kind.Poly p p 0) x y xs ys rows) n_is m_is

  full_sized : sizes (shape_of kind.Poly p p 0) ≡ Some (p, p, length rows)
  full_sized =
      sym (ap₂ (poly_sizes p) (sym T.square) facts.0) ∙ as_poly ∙ ap₂ (λ (x y : ℕ). Some (x, y, length rows)) n_is m_is

  full_outputs : length rows ≡ 2 * p - 1
  full_outputs = let a : p + q - 1 ≡ length rows = ap (λ (z : ℕ × ℕ × ℕ). z.2) facts.2 in let b = T.square in omega arith

pub turning_inv : (number p q r k : ℕ) (xs ys rows : List ℕ) (u v w : ℕ) (g : Admitted) → turning number p q r k xs ys rows u v w ≡ accepted g
    → TurnedSo number p q r k xs ys rows g
unfolding turning
turning_inv number p q r k xs ys rows u v w g e =
    let a = follow_inv (turnable (kind_numbered number) p q r) _ g e in
    let T = turnable_inv (kind_numbered number) p q r a.1 in
    let b = follow_inv (admit (kind_numbered number) p q r k (lists_handed k xs ys rows)) (turned_into u v w) g a.2 in
    let H = handed_inv number p q r k xs ys rows b.0 b.1 in
    let F = full_is H T in
    let c = refuse_inv 12 (zero_in (columns b.0.rows (length b.0.firsts))) _ g b.2 in
    let d = refuse_inv 9 (too_short u v w (turned b.0)) (accepted (turned b.0)) g c.1 in
    record {
      admitted = b.1 ∙ ap accepted F;
      sized = full_sized H T;
      middle = T.middle;
      outputs = full_outputs H T;
      products = H.products;
      pairs = H.pairs;
      narrow = sym (ap (λ (n : ℕ). wide n xs) (n_is H T)) ∙ (neither (wide H.n xs) (wide H.m ys || wide k rows) H.narrow).0;
      nonzero = (neither (zero_in xs) (zero_in ys) H.nonzero).0;
      few = H.few;
      used = sym (ap (λ (f : Admitted). zero_in (columns f.rows (length f.firsts))) F ∙ ap (λ (n : ℕ). zero_in (columns rows n)) H.products) ∙ c.0;
      is = sym (ap turned F) ∙ accepted_inj (turned b.0) g d.1;
    }

-- ---- what Check asks of the turned formula
pub turned_handed : {number p q r k : ℕ} {xs ys rows : List ℕ} {g : Admitted} → TurnedSo number p q r k xs ys rows g
    → HandedSo (number_of kind.Mid) p (2 * p - 1) 0 k g.firsts g.seconds g.rows g
turned_handed {number} {p} {q} {r} {k} {xs} {ys} {rows} S =
    subst (λ (g : Admitted). HandedSo (number_of kind.Mid) p (2 * p - 1) 0 k g.firsts g.seconds g.rows g) S.is made
  where
    narrow_seconds : wide (2 * p - 1) (columns rows (length xs)) ≡ false
    narrow_seconds =
        sym (ap (λ (w : ℕ). wide w (columns rows (length xs))) S.outputs) ∙ listed_narrow (column rows) (length rows) 0 (length xs) (column_below rows)

    narrow_rows : wide k (columns ys p) ≡ false
    narrow_rows = sym (ap (λ (w : ℕ). wide w (columns ys p)) S.pairs) ∙ listed_narrow (column ys) (length ys) 0 p (column_below ys)

    made : let f = turned (full_of p xs ys rows) in HandedSo (number_of kind.Mid) p (2 * p - 1) 0 k f.firsts f.seconds f.rows f
    made =
        record {
          kd = kind.Mid;
          n = p;
          m = 2 * p - 1;
          named = kind_numbered_law kind.Mid;
          map = refl;
          sized = S.middle ∙ ap (λ (u : ℕ). Some (p, 2 * p - 1, u)) (sym (length_list_of (column ys) 0 p));
          products = length-map xs (reversed p) ∙ S.products;
          pairs = length_list_of (column rows) 0 (length xs) ∙ S.products;
          narrow = ap₂ ◌||◌ (reversed_narrow p xs) (ap₂ ◌||◌ narrow_seconds narrow_rows);
          nonzero = ap₂ ◌||◌ (reversed_some p xs S.narrow S.nonzero) (ap (λ (n : ℕ). zero_in (columns rows n)) S.products ∙ S.used);
          few = S.few;
          is = refl;
        }
