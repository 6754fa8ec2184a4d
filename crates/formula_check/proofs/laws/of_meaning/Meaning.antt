-- The proof that Check's reply means what `Meaning` says: a row's form has, at each input, the value that the row gives; forms are equal exactly if
-- they agree at every input; and the first row whose form is not the target's is found. Assumes nothing.
use Rattle.std.specs.Prelude.{◌≡◌, refl, ◌≢◌, ◌↔◌, Bool, true, false, ◌&&◌, cond, length, get_or, eqb, Option, None, Some}
use Rattle.std.proofs.Math.Path.{sym}
use Rattle.std.proofs.Common.{ap, ap₂, ◌∙◌, subst, add-zero, add-suc, arith, pow_pos, eq-eqb, ne_eqb}
use mathlib.Core.List.{List, [], ◌∷◌}
use Prim.Native.Nat.{ℕ, zero, suc, ◌+◌, ◌*◌, ◌^◌, ◌<◌, ◌≤◌}
use Rattle.std.proofs.Math.Nat.{suc-add}
use Rattle.std.proofs.Math.Decide.{ℕ_discrete, dec_lt}
use Rattle.std.proofs.lemmas.Nat.{xor_lt}
use Rattle.linear.specs.Bit.{bit, xor_b}
use Rattle.linear.specs.Word.{scale_w}
use Rattle.kinds.specs.Kinds.{kind_numbered, is_list}
use Rattle.kinds.specs.Sizes.{shape_of, sizes}
use Rattle.kinds.specs.laws.Sizes.{sizes_bounds}
use Rattle.kinds.specs.Refusal.{accepted}
use Rattle.kinds.specs.laws.Refusal.{accepted_inj, follow_inv}
use Rattle.kinds.specs.declared.Shape.{Shape}
use Rattle.forms.specs.products.Product.{product_form}
use Rattle.forms.specs.products.laws.Product.{product_below}
use Rattle.maps.specs.Textbook.{output}
use Rattle.maps.specs.Target.{value, target_form}
use Rattle.maps.specs.Meaning.{target_value, target_below, value_xor, value_zero, value_product, value_equal, value_differs}
use Rattle.formula_check.specs.Formula.{formula_output, first_wrong, Admitted, formula_of, admit, lists_handed, verdict, check}
use Rattle.formula_check.specs.sums.Sums.{product_forms}
use Rattle.forms.specs.Row.{row_form}
use Rattle.formula_check.proofs.laws.Admitted.{handed_inv, handed_fitting}
use Rattle.formula_check.proofs.laws.Admission.{check_as}
use Rattle.formula_check.specs.meaning.Meaning.{gives, Agrees, Right, FirstDiffers, RightFormula, FormulaDiffers, Means}

-- ---- a row's form
scale_value : (n m : ℕ) (a b : ℕ → Bool) (c : Bool) (f : ℕ) → value n m (scale_w c f) a b ≡ c && value n m f a b
scale_value n m a b true f = refl
scale_value n m a b false f = value_zero n m a b

pub row_value : (n m : ℕ) → n * m ≤ 64 → (xs ys : List ℕ) (row k : ℕ) (a b : ℕ → Bool) → value n m (row_form (product_forms n m xs ys) row k) a b ≡ formula_output n m xs ys row k a b
unfolding row_form product_forms formula_output
row_value n m h [] ys row k a b = value_zero n m a b
row_value n m h (x ∷ xs) [] row k a b = value_zero n m a b
row_value n m h (x ∷ xs) (y ∷ ys) row k a b =
    value_xor n m a b (scale_w (bit row k) (product_form n m x y)) (row_form (product_forms n m xs ys) row (suc k))
    ∙ ap₂ xor_b (scale_value n m a b (bit row k) (product_form n m x y) ∙ ap (λ (z : Bool). bit row k && z) (value_product n m a b x y h))
    (row_value n m h xs ys row (suc k) a b)

scale_below : (w f : ℕ) (c : Bool) → f < 2 ^ w → scale_w c f < 2 ^ w
scale_below w f true h = h
scale_below w f false h = pow_pos w

pub row_below : (n m : ℕ) (xs ys : List ℕ) (row k : ℕ) → row_form (product_forms n m xs ys) row k < 2 ^ (n * m)
unfolding row_form product_forms
row_below n m [] ys row k = pow_pos (n * m)
row_below n m (x ∷ xs) [] row k = pow_pos (n * m)
row_below n m (x ∷ xs) (y ∷ ys) row k =
    xor_lt (n * m) (scale_w (bit row k) (product_form n m x y)) (row_form (product_forms n m xs ys) row (suc k))
    (scale_below (n * m) (product_form n m x y) (bit row k) (product_below n m x y)) (row_below n m xs ys row (suc k))

-- ---- the first wrong output
module _ (shape : Shape) (n m : ℕ) (fs : List ℕ) where
  -- row i, of rows whose first is for output t, gives the target
  abbrev Same : List ℕ → ℕ → ℕ → Type 0
  Same rows t i = row_form fs (get_or rows i 0) 0 ≡ target_form shape n m (t + i)

  abbrev First : List ℕ → ℕ → ℕ → Type 0
  First rows t i = (i < length rows) × (Same rows t i → ⊥) × ((j : ℕ) → j < i → Same rows t j)

  abbrev Found : Option ℕ → List ℕ → ℕ → Type 0
  Found None rows t = (i : ℕ) → i < length rows → Same rows t i
  Found (Some u) rows t = (i : ℕ) × (u ≡ t + i) × First rows t i

  shift : (rows : List ℕ) (row t i : ℕ) → Same rows (suc t) i → Same (row ∷ rows) t (suc i)
  shift rows row t i e = e ∙ ap (target_form shape n m) (suc-add t i ∙ sym (add-suc t i))

  back : (rows : List ℕ) (row t i : ℕ) → Same (row ∷ rows) t (suc i) → Same rows (suc t) i
  back rows row t i e = e ∙ ap (target_form shape n m) (add-suc t i ∙ sym (suc-add t i))

  head : (rows : List ℕ) (row t : ℕ) → row_form fs row 0 ≡ target_form shape n m t → Same (row ∷ rows) t 0
  head rows row t e = e ∙ ap (target_form shape n m) (sym (add-zero t))

  pub first_found : (rows : List ℕ) (t : ℕ) → Found (first_wrong shape n m fs rows t) rows t
  unfolding first_wrong
  first_found [] t = λ i h. absurd (omega arith)
  first_found (row ∷ rows) t = go (ℕ_discrete (row_form fs row 0) (target_form shape n m t)) (first_found rows (suc t))
    where
      later : (o : Option ℕ) → row_form fs row 0 ≡ target_form shape n m t → Found o rows (suc t) → Found o (row ∷ rows) t
      later None e f = all
        where
          all : (i : ℕ) → i < suc (length rows) → Same (row ∷ rows) t i
          all zero h = head rows row t e
          all (suc i) h = shift rows row t i (f i (omega arith))
      later (Some u) e f = (
        suc f.0,
        f.1 ∙ suc-add t f.0 ∙ sym (add-suc t f.0),
        ((let h = f.2.0 in omega arith), (λ s. f.2.1 (back rows row t f.0 s)), all),
      )
        where
          all : (j : ℕ) → j < suc f.0 → Same (row ∷ rows) t j
          all zero h = head rows row t e
          all (suc j) h = shift rows row t j (f.2.2 j (omega arith))

      go : Dec (row_form fs row 0 ≡ target_form shape n m t) → Found (first_wrong shape n m fs rows (suc t)) rows (suc t)
          → Found (cond (eqb (row_form fs row 0) (target_form shape n m t)) (first_wrong shape n m fs rows (suc t)) (Some t)) (row ∷ rows) t
      go (yes e) ih =
          subst (λ (b : Bool). Found (cond b (first_wrong shape n m fs rows (suc t)) (Some t)) (row ∷ rows) t) (sym (eq-eqb (row_form fs row 0) (target_form shape n m t) e))
          (later (first_wrong shape n m fs rows (suc t)) e ih)
      go (no d) ih =
          subst (λ (b : Bool). Found (cond b (first_wrong shape n m fs rows (suc t)) (Some t)) (row ∷ rows) t) (sym (ne_eqb (row_form fs row 0) (target_form shape n m t) d))
          (0, sym (add-zero t), (omega arith, (λ s. d (s ∙ ap (target_form shape n m) (add-zero t))), λ j h. absurd (omega arith)))

-- ---- forms that are equal, and outputs that agree
module _ (shape : Shape) (n m : ℕ) (xs ys rows : List ℕ) (sized : sizes shape ≡ Some (n, m, length rows)) (map : is_list shape.kind ≡ false) where
  fs : List ℕ
  fs = product_forms n m xs ys

  room : n * m ≤ 64
  room = (sizes_bounds shape (n, m, length rows) sized).fits.product

  abbrev Equal : ℕ → Type 0
  Equal t = row_form (product_forms n m xs ys) (get_or rows t 0) 0 ≡ target_form shape n m t

  -- the values of the two forms are what the row gives and what the map has
  given_here : (t a b : ℕ) → value n m (row_form (product_forms n m xs ys) (get_or rows t 0) 0) (bit a) (bit b) ≡ gives n m xs ys (get_or rows t 0) a b
  given_here t a b = row_value n m room xs ys (get_or rows t 0) 0 (bit a) (bit b)

  wanted_here : (t : ℕ) → t < length rows → (a b : ℕ) → value n m (target_form shape n m t) (bit a) (bit b) ≡ output shape (bit a) (bit b) t
  wanted_here t h a b = target_value shape n m (length rows) sized t h map (bit a) (bit b)

  pub equal_agrees : (t : ℕ) → t < length rows → Equal t → Agrees shape n m xs ys rows t
  equal_agrees t h e a b ha hb = sym (given_here t a b) ∙ ap (λ (f : ℕ). value n m f (bit a) (bit b)) e ∙ wanted_here t h a b

  pub agrees_equal : (t : ℕ) → t < length rows → Agrees shape n m xs ys rows t → Equal t
  agrees_equal t h e =
      value_equal n m (row_form (product_forms n m xs ys) (get_or rows t 0) 0) (target_form shape n m t) (row_below n m xs ys (get_or rows t 0) 0) (target_below shape n m t)
      (λ a b ha hb. given_here t a b ∙ e a b ha hb ∙ sym (wanted_here t h a b))

  abbrev Differs : ℕ → Type 0
  Differs t = (a : ℕ) × (b : ℕ) × (a < 2 ^ n) × (b < 2 ^ m) × (gives n m xs ys (get_or rows t 0) a b ≢ output shape (bit a) (bit b) t)

  unequal_differs : (t : ℕ) → t < length rows → (Equal t → ⊥) → Differs t
  unequal_differs t h d =
      let x = value_differs n m (row_form (product_forms n m xs ys) (get_or rows t 0) 0) (target_form shape n m t) (row_below n m xs ys (get_or rows t 0) 0) (target_below shape n m t) d in
      (x.0, x.1, x.2, x.3, λ e. x.4 (given_here t x.0 x.1 ∙ e ∙ sym (wanted_here t h x.0 x.1)))

  -- ---- the said
  abbrev said : Option ℕ
  said = first_wrong shape n m (product_forms n m xs ys) rows 0

  -- what was found, from output 0 on
  abbrev Verdict : Option ℕ → Type 0
  Verdict None = (t : ℕ) → t < length rows → Equal t
  Verdict (Some t) = (t < length rows) × (Equal t → ⊥) × ((s : ℕ) → s < t → Equal s)

  zero_plus : (t : ℕ) → 0 + t ≡ t
  zero_plus t = omega arith

  from_zero : (o : Option ℕ) → Found shape n m (product_forms n m xs ys) o rows 0 → Verdict o
  from_zero None f = λ t h. f t h ∙ ap (target_form shape n m) (zero_plus t)
  from_zero (Some u) f =
      let e : u ≡ f.0 = f.1 ∙ zero_plus f.0 in
      subst (λ (x : ℕ). (x < length rows) × (Equal x → ⊥) × ((s : ℕ) → s < x → Equal s)) (sym e)
      (f.2.0, (λ g. f.2.1 (g ∙ ap (target_form shape n m) (sym (zero_plus f.0)))), λ s h. f.2.2 s h ∙ ap (target_form shape n m) (zero_plus s))

  found : Verdict said
  found = from_zero said (first_found shape n m (product_forms n m xs ys) rows 0)

  differ_no : (t : ℕ) → t < length rows → Differs t → Equal t → ⊥
  differ_no t h d e = d.4 (equal_agrees t h e d.0 d.1 d.2 d.3)

  none_right : (o : Option ℕ) → Verdict o → (o ≡ None) ↔ Right shape n m xs ys rows
  none_right None f = (λ e t h. equal_agrees t h (f t h), λ g. refl)
  none_right (Some t) f = (λ e. absurd (let z : ◌≡◌ {A = ℕ} 0 1 = cc in omega arith), λ g. absurd (f.1 (agrees_equal t f.0 (g t f.0))))

  some_wrong : (o : Option ℕ) → Verdict o → (t : ℕ) → (o ≡ Some t) ↔ FirstDiffers shape n m xs ys rows t
  some_wrong None f t = (
    λ e. absurd (let z : ◌≡◌ {A = ℕ} 0 1 = cc in omega arith),
    λ g. absurd (differ_no t g.there g.differs (f t g.there)),
  )
  some_wrong (Some u) f t = (λ e. to (let z : u ≡ t = cc in z), λ g. ap Some (same g (dec_lt u t) (dec_lt t u)))
    where
      here : FirstDiffers shape n m xs ys rows u
      here =
          record {
            there = f.0;
            differs = unequal_differs u f.0 f.1;
            first = λ s h. equal_agrees s (let l = f.0 in omega arith) (f.2 s h);
          }

      to : u ≡ t → FirstDiffers shape n m xs ys rows t
      to z = subst (FirstDiffers shape n m xs ys rows) z here

      same : FirstDiffers shape n m xs ys rows t → Dec (u < t) → Dec (t < u) → u ≡ t
      same g (yes l) b = absurd (f.1 (agrees_equal u f.0 (g.first u l)))
      same g (no l) (yes b) = absurd (differ_no t g.there g.differs (f.2 t b))
      same g (no l) (no b) = omega arith

  pub right_iff : (said ≡ None) ↔ Right shape n m xs ys rows
  right_iff = none_right said found

  pub wrong_iff : (t : ℕ) → (said ≡ Some t) ↔ FirstDiffers shape n m xs ys rows t
  wrong_iff = some_wrong said found

-- ---- the verdict on an admitted formula
pub verdict_means : (f : Admitted) → sizes f.shape ≡ Some (f.n, f.m, length f.rows) → is_list f.shape.kind ≡ false
    → (((verdict f).0 ≡ None) ↔ RightFormula f) × ((t : ℕ) → ((verdict f).0 ≡ Some t) ↔ FormulaDiffers f t)
verdict_means f S h =
    (right_iff f.shape f.n f.m f.firsts f.seconds f.rows S h, wrong_iff f.shape f.n f.m f.firsts f.seconds f.rows S h)

-- ---- an accepted reply
pub check_means : (number p q r k : ℕ) (xs ys rows : List ℕ) (v : Option ℕ) (w : ℕ) → check number p q r k xs ys rows ≡ accepted (v, w) → Means number p q r k xs ys rows v w
unfolding check
check_means number p q r k xs ys rows v w e =
    let i = follow_inv (admit (kind_numbered number) p q r k (lists_handed k xs ys rows)) (λ f. accepted (verdict f)) (v, w) e in
    let H = handed_inv number p q r k xs ys rows i.0 i.1 in
    let shape = shape_of H.kd p q r in
    let J : verdict (formula_of shape H.n H.m xs ys rows) ≡ (v, w) = ap verdict H.is ∙ accepted_inj (verdict i.0) (v, w) i.2 in
    let E : first_wrong shape H.n H.m (product_forms H.n H.m xs ys) rows 0 ≡ v = ap (λ (x : Option ℕ × ℕ). x.0) J in
    record {
      kd = H.kd;
      n = H.n;
      m = H.m;
      named = H.named;
      map = H.map;
      sized = H.sized;
      products = H.products;
      pairs = H.pairs;
      right = subst (λ (o : Option ℕ). (o ≡ None) ↔ Right shape H.n H.m xs ys rows) E (right_iff shape H.n H.m xs ys rows H.sized H.map);
      wrong = λ t. subst (λ (o : Option ℕ). (o ≡ Some t) ↔ FirstDiffers shape H.n H.m xs ys rows t) E (wrong_iff shape H.n H.m xs ys rows H.sized H.map t);
      cost = sym (ap (λ (x : Option ℕ × ℕ). x.1) J);
    }

-- ---- an admitted formula on numbers
module _ (number p q r k : ℕ) (xs ys rows : List ℕ) (f : Admitted) (A : admit (kind_numbered number) p q r k (lists_handed k xs ys rows) ≡ accepted f) where
  judged : check number p q r k xs ys rows ≡ accepted (verdict f)
  judged = check_as number p q r k xs ys rows A

  said_right : ((verdict f).0 ≡ None) ↔ RightFormula f
  said_right =
      let H = handed_inv number p q r k xs ys rows f A in
      let map : is_list f.shape.kind ≡ false = subst (λ (g : Admitted). is_list g.shape.kind ≡ false) H.is H.map in
      (verdict_means f (handed_fitting number p q r k xs ys rows f H).sized map).0

  pub check_right : ((w : ℕ) × (check number p q r k xs ys rows ≡ accepted (None, w))) ↔ RightFormula f
  check_right = (
    λ x. said_right.0 (ap (λ (v : Option ℕ × ℕ). v.0) (accepted_inj (verdict f) (None, x.0) (sym judged ∙ x.1))),
    λ R. ((verdict f).1, judged ∙ ap (λ (v : Option ℕ). accepted (v, (verdict f).1)) (said_right.1 R)),
  )
