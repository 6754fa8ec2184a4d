-- What an admitted formula has been through.
--   admit_inv                the tests of refusals 2 to 8, one by one
--   HandedSo, handed_inv     the same of a formula on numbers, whose lists are those handed in
--   handed_is                lists that pass the tests are admitted
--   handed_fitting           what is admitted can be judged
-- Assumes nothing.
use Rattle.std.specs.Prelude.{◌≡◌, refl, Bool, true, false, not, ◌||◌, List, ℕ, length, eqb, ltb, Option, None, Some}
use Rattle.std.proofs.Common.{sym, ◌∙◌, subst, arith, eqb-true, ltb-false}
use Rattle.std.proofs.Math.Path.{ap}
use Rattle.std.proofs.Math.Bool.{cond}
use Rattle.std.proofs.lemmas.Bool.{not-false}
use Rattle.kinds.specs.Kinds.{kind_numbered, is_list, known_map}
use Rattle.kinds.specs.Limits.{most_products}
use Rattle.kinds.specs.Sizes.{shape_of, sizes}
use Rattle.kinds.specs.Refusal.{accepted}
use Rattle.kinds.specs.laws.Refusal.{accepted_inj, need_inv, refuse_inv, neither}
use Rattle.words.specs.Masks.{wide, zero_in}
use Rattle.kinds.specs.declared.Kind.{Kind}
use Rattle.formula_check.specs.Formula.{Lists, Admitted, formula_of, passed, admit, lengths, lists_handed}
use Rattle.formula_check.specs.Replies.{Fitting}
use Rattle.formula_check.proofs.laws.Admission.{alike, admit_passed}

-- a kind that has formulae is the one named, and not list
known_inv : (o : Option Kind) (kd : Kind) → known_map o ≡ Some kd → (o ≡ Some kd) × (is_list kd ≡ false)
known_inv None kd e = absurd (let z : ◌≡◌ {A = ℕ} 0 1 = cc in omega arith)
known_inv (Some k) kd e = go (is_list k) refl e
  where
    go : (b : Bool) → is_list k ≡ b → cond b None (Some k) ≡ Some kd → (Some k ≡ Some kd) × (is_list kd ≡ false)
    go true q h = absurd (let z : ◌≡◌ {A = ℕ} 0 1 = cc in omega arith)
    go false q h = (h, subst (λ (x : Kind). is_list x ≡ false) (let z : k ≡ kd = cc in z) q)

-- what an admitted formula has been through
pub record AdmittedSo (named : Option Kind) (p q r k : ℕ) (lists : ℕ → Option Lists) (f : Admitted) : Type 0 where
  pub kd : Kind
  pub n : ℕ
  pub m : ℕ
  pub u : ℕ
  pub l : Lists
  pub is_named : named ≡ Some kd
  pub is_map : is_list kd ≡ false
  pub sized : sizes (shape_of kd p q r) ≡ Some (n, m, u)
  pub listed : lists u ≡ Some l
  pub narrow : (wide n l.0 || (wide m l.1 || wide k l.2)) ≡ false
  pub nonzero : (zero_in l.0 || zero_in l.1) ≡ false
  pub few : ltb most_products k ≡ false
  pub is : formula_of (shape_of kd p q r) n m l.0 l.1 l.2 ≡ f

pub admit_inv : (named : Option Kind) (p q r k : ℕ) (lists : ℕ → Option Lists) (f : Admitted) → admit named p q r k lists ≡ accepted f → AdmittedSo named p q r k lists f
unfolding admit passed
admit_inv named p q r k lists f e =
    let a = need_inv 2 (known_map named) _ f e in
    let N = known_inv named a.0 a.1 in
    let b = need_inv 3 (sizes (shape_of a.0 p q r)) _ f a.2 in
    let z = b.0 in
    let c = need_inv 5 (lists z.2) _ f b.2 in
    let l = c.0 in
    let x = refuse_inv 6 (wide z.0 l.0 || (wide z.1 l.1 || wide k l.2)) _ f c.2 in
    let y = refuse_inv 7 (zero_in l.0 || zero_in l.1) _ f x.1 in
    let d = refuse_inv 8 (ltb most_products k) _ f y.1 in
    record {
      kd = a.0;
      n = z.0;
      m = z.1;
      u = z.2;
      l = l;
      is_named = N.0;
      is_map = N.1;
      sized = b.1;
      listed = c.1;
      narrow = x.0;
      nonzero = y.0;
      few = d.0;
      is = accepted_inj (formula_of (shape_of a.0 p q r) z.0 z.1 l.0 l.1 l.2) f d.1;
    }

-- ---- on numbers
lengths_inv : (k u : ℕ) (xs ys rows : List ℕ) → lengths k u xs ys rows ≡ false → (length xs ≡ k) × (length ys ≡ k) × (length rows ≡ u)
unfolding lengths
lengths_inv k u xs ys rows e =
    let a = neither (not (eqb (length xs) k)) (not (eqb (length ys) k) || not (eqb (length rows) u)) e in
    let b = neither (not (eqb (length ys) k)) (not (eqb (length rows) u)) a.1 in
    let is : (x y : ℕ) → not (eqb x y) ≡ false → x ≡ y = λ x y e. eqb-true x y (not-false (eqb x y) e) in
    (is (length xs) k a.0, is (length ys) k b.0, is (length rows) u b.1)

-- the lists that are handed in, where they have the right lengths
lists_inv : (k u : ℕ) (xs ys rows : List ℕ) (l : Lists) → lists_handed k xs ys rows u ≡ Some l → (lengths k u xs ys rows ≡ false) × ((xs, ys, rows) ≡ l)
lists_inv k u xs ys rows l e = go (lengths k u xs ys rows) refl e
  where
    go : (b : Bool) → lengths k u xs ys rows ≡ b → cond b None (Some (xs, ys, rows)) ≡ Some l → (lengths k u xs ys rows ≡ false) × ((xs, ys, rows) ≡ l)
    go true q h = absurd (let z : ◌≡◌ {A = ℕ} 0 1 = cc in omega arith)
    go false q h = (q, cc)

pub record HandedSo (number p q r k : ℕ) (xs ys rows : List ℕ) (f : Admitted) : Type 0 where
  pub kd : Kind
  pub n : ℕ
  pub m : ℕ
  pub named : kind_numbered number ≡ Some kd
  pub map : is_list kd ≡ false
  pub sized : sizes (shape_of kd p q r) ≡ Some (n, m, length rows)
  pub products : length xs ≡ k
  pub pairs : length ys ≡ k
  pub narrow : (wide n xs || (wide m ys || wide k rows)) ≡ false
  pub nonzero : (zero_in xs || zero_in ys) ≡ false
  pub few : ltb most_products k ≡ false
  pub is : formula_of (shape_of kd p q r) n m xs ys rows ≡ f

module _ (number p q r k : ℕ) (xs ys rows : List ℕ) (f : Admitted) where
  pub handed_inv : admit (kind_numbered number) p q r k (lists_handed k xs ys rows) ≡ accepted f → HandedSo number p q r k xs ys rows f
  handed_inv e =
      let A = admit_inv (kind_numbered number) p q r k (lists_handed k xs ys rows) f e in
      let H = lists_inv k A.u xs ys rows A.l A.listed in
      let l = lengths_inv k A.u xs ys rows H.0 in
      let Lists-are : (l : Lists) → Type 0 = λ l. ((wide A.n l.0 || (wide A.m l.1 || wide k l.2)) ≡ false)
      × ((zero_in l.0 || zero_in l.1) ≡ false) × (formula_of (shape_of A.kd p q r) A.n A.m l.0 l.1 l.2 ≡ f) in
      let T = subst Lists-are (sym H.1) (A.narrow, A.nonzero, A.is) in
      record {
        kd = A.kd;
        n = A.n;
        m = A.m;
        named = A.is_named;
        map = A.is_map;
        sized = A.sized ∙ ap (λ (u : ℕ). Some (A.n, A.m, u)) (sym l.2);
        products = l.0;
        pairs = l.1;
        narrow = T.0;
        nonzero = T.1;
        few = A.few;
        is = T.2;
      }

  pub handed_is : HandedSo number p q r k xs ys rows f → admit (kind_numbered number) p q r k (lists_handed k xs ys rows) ≡ accepted f
  unfolding passed
  handed_is H =
      admit_passed number p q r k xs ys rows H.kd (ap known_map H.named ∙ ap (λ (b : Bool). cond b None (Some H.kd)) H.map)
      H.n H.m (length rows) H.sized
      (alike k (length rows) xs ys rows H.products H.pairs refl)
      ∙ rw (H.narrow, H.nonzero, H.few) (ap accepted H.is)

  pub handed_fitting : HandedSo number p q r k xs ys rows f → Fitting f.shape f.n f.m f.firsts f.seconds f.rows
  handed_fitting H =
      subst (λ (g : Admitted). Fitting g.shape g.n g.m g.firsts g.seconds g.rows) H.is
      (record {
        sized = H.sized;
        paired = H.products ∙ sym H.pairs;
        few = (let h = ltb-false most_products k H.few in let e = H.products in omega arith);
      })
