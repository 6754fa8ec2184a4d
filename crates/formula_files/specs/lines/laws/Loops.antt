-- A loop over the lines, with the buffers and the flags that it keeps, and what it comes to.
--   products_from, rows_from       the loop, from its i-th line on
--   products_turn, -stop, -end   one turn, a misshapen line, the end; and for rows
--   products_from_law, rows_from_law     the loop gives the lines, the buffers written, and the flags
--   product_first .. product_at  the cases of a product line, and one read at a part of the text
-- Assumes nothing.
use Rattle.std.specs.Prelude.{ℕ, zero, suc, ◌+◌, ◌-◌, ◌<◌, ◌≡◌, refl, List, ◌∷◌, Bool, true, false, ◌||◌, length, take, drop, set, eqb, Option, None, Some}
use Rattle.std.proofs.Common.{ap, ◌∙◌, arith, add-one}
use Rattle.std.proofs.lemmas.List.Edits.{sets}
use Rattle.words.specs.Masks.{outside, wide, zero_in}
use Rattle.text.specs.Reading.{◌>>=◌}
use Rattle.text.specs.Line.{mask_field, mask_line}
use Rattle.text.specs.laws.Line.{read_at, rest_at}
use Rattle.formula_files.specs.lines.Formula.{product_line, products, rows}
use Rattle.formula_files.specs.lines.Buffered.{products_from, rows_from}

-- ---- one turn
pub products_step : (n m k s_at i : ℕ) (s : List ℕ) (a b : List ℕ) (w z : Bool) (x y : ℕ) (t : List ℕ) → i < k → product_line (drop s_at s) ≡ Some (x, y, t)
    → products_from n m (k - i) (drop s_at s) i a b w z
    ≡ products_from n m (k - (i + 1)) t (i + 1) (set a i x) (set b i y) ((w || outside n x) || outside m y) ((z || eqb x 0) || eqb y 0)
unfolding products_from
products_step n m k s_at i s a b w z x y t h e =
    let f : k - i ≡ suc (k - (i + 1)) = omega arith in
    rw (f, e)

pub products_turn : (n m k s_at i : ℕ) (s : List ℕ) (a b : List ℕ) (w z : Bool) (x y : ℕ) (t : List ℕ) (a₁ b₁ : List ℕ) (w₁ w₂ z₁ z₂ : Bool) → i < k → product_line (drop s_at s) ≡ Some (x, y, t)
    → a₁ ≡ set a i x → b₁ ≡ set b i y → w₁ ≡ (w || outside n x) → w₂ ≡ (w₁ || outside m y) → z₁ ≡ (z || eqb x 0) → z₂ ≡ (z₁ || eqb y 0)
    → products_from n m (k - i) (drop s_at s) i a b w z ≡ products_from n m (k - (i + 1)) t (i + 1) a₁ b₁ w₂ z₂
products_turn n m k s_at i s a b w z x y t a₁ b₁ w₁ w₂ z₁ z₂ h e ea eb ew₁ ew₂ ez₁ ez₂ =
    rw (ea, eb, ew₂, ew₁, ez₂, ez₁) (products_step n m k s_at i s a b w z x y t h e)

pub products_stop : (n m k s_at i : ℕ) (s : List ℕ) (a b : List ℕ) (w z : Bool) → i < k → product_line (drop s_at s) ≡ None
    → products_from n m (k - i) (drop s_at s) i a b w z ≡ None
unfolding products_from
products_stop n m k s_at i s a b w z h e =
    let f : k - i ≡ suc (k - (i + 1)) = omega arith in
    rw (f, e)

pub products_end : (n m k i : ℕ) (s : List ℕ) (a b : List ℕ) (w z : Bool) → i ≡ k → products_from n m (k - i) s i a b w z ≡ Some (s, a, b, w, z)
unfolding products_from
products_end n m k i s a b w z h =
    let f : k - i ≡ 0 = omega arith in
    rw f

pub rows_step : (k t s_at i : ℕ) (s : List ℕ) (d : List ℕ) (w : Bool) (x : ℕ) (r : List ℕ) → i < t → mask_line (drop s_at s) ≡ Some (x, r)
    → rows_from k (t - i) (drop s_at s) i d w ≡ rows_from k (t - (i + 1)) r (i + 1) (set d i x) (w || outside k x)
unfolding rows_from
rows_step k t s_at i s d w x r h e =
    let f : t - i ≡ suc (t - (i + 1)) = omega arith in
    rw (f, e)

pub rows_turn : (k t s_at i : ℕ) (s : List ℕ) (d : List ℕ) (w : Bool) (x : ℕ) (r : List ℕ) (d₁ : List ℕ) (w₁ : Bool) → i < t → mask_line (drop s_at s) ≡ Some (x, r)
    → d₁ ≡ set d i x → w₁ ≡ (w || outside k x)
    → rows_from k (t - i) (drop s_at s) i d w ≡ rows_from k (t - (i + 1)) r (i + 1) d₁ w₁
rows_turn k t s_at i s d w x r d₁ w₁ h e ed ew = rw (ed, ew) (rows_step k t s_at i s d w x r h e)

pub rows_stop : (k t s_at i : ℕ) (s : List ℕ) (d : List ℕ) (w : Bool) → i < t → mask_line (drop s_at s) ≡ None → rows_from k (t - i) (drop s_at s) i d w ≡ None
unfolding rows_from
rows_stop k t s_at i s d w h e =
    let f : t - i ≡ suc (t - (i + 1)) = omega arith in
    rw (f, e)

pub rows_end : (k t i : ℕ) (s : List ℕ) (d : List ℕ) (w : Bool) → i ≡ t → rows_from k (t - i) s i d w ≡ Some (s, d, w)
unfolding rows_from
rows_end k t i s d w h =
    let f : t - i ≡ 0 = omega arith in
    rw f

-- ---- what the loops come to
or_mixed : (w x y a b : Bool) → (((w || x) || y) || (a || b)) ≡ (w || ((x || a) || (y || b)))
or_mixed true x y a b = refl
or_mixed false true y a b = refl
or_mixed false false true true b = refl
or_mixed false false true false b = refl
or_mixed false false false a b = refl

or_assoc : (w x a : Bool) → ((w || x) || a) ≡ (w || (x || a))
or_assoc true x a = refl
or_assoc false x a = refl

or_none : (w : Bool) → w ≡ (w || false)
or_none true = refl
or_none false = refl

pub products_from_law : (n m k : ℕ) (s : List ℕ) (i : ℕ) (a b : List ℕ) (w z : Bool)
    → products_from n m k s i a b w z
    ≡ (products k s >>= λ d. Some (d.2, sets a i d.0, sets b i d.1, w || (wide n d.0 || wide m d.1), z || (zero_in d.0 || zero_in d.1)))
unfolding products_from products wide zero_in
products_from_law n m zero s i a b w z = rw (← or_none w, ← or_none z)
products_from_law n m (suc k) s i a b w z =
    step (product_line s) (λ l. products_from_law n m k l.2 (i + 1) (set a i l.0) (set b i l.1) ((w || outside n l.0) || outside m l.1) ((z || eqb l.0 0) || eqb l.1 0))
  where
    Line : Type 0
    Line = ℕ × ℕ × List ℕ

    Lines : Type 0
    Lines = List ℕ × List ℕ × List ℕ

    All : Type 0
    All = List ℕ × List ℕ × List ℕ × Bool × Bool

    end : ℕ → List ℕ → List ℕ → Bool → Bool → Lines → Option All
    end j a b w z d = Some (d.2, sets a j d.0, sets b j d.1, w || (wide n d.0 || wide m d.1), z || (zero_in d.0 || zero_in d.1))

    run : Line → Option All
    run l = products_from n m k l.2 (i + 1) (set a i l.0) (set b i l.1) ((w || outside n l.0) || outside m l.1) ((z || eqb l.0 0) || eqb l.1 0)

    join : (l : Line) (q : Option Lines) → (q >>= end (i + 1) (set a i l.0) (set b i l.1) ((w || outside n l.0) || outside m l.1) ((z || eqb l.0 0) || eqb l.1 0))
        ≡ ((q >>= λ e. Some (l.0 ∷ e.0, l.1 ∷ e.1, e.2)) >>= end i a b w z)
    join l None = refl
    join l (Some d) =
        rw (
          add-one i,
          or_mixed w (outside n l.0) (outside m l.1) (wide n d.0) (wide m d.1),
          or_mixed z (eqb l.0 0) (eqb l.1 0) (zero_in d.0) (zero_in d.1),
        )

    step : (o : Option Line)
        → ((l : Line) → run l ≡ (products k l.2 >>= end (i + 1) (set a i l.0) (set b i l.1) ((w || outside n l.0) || outside m l.1) ((z || eqb l.0 0) || eqb l.1 0)))
        → (o >>= run) ≡ ((o >>= λ l. products k l.2 >>= λ e. Some (l.0 ∷ e.0, l.1 ∷ e.1, e.2)) >>= end i a b w z)
    step None ih = refl
    step (Some l) ih = ih l ∙ join l (products k l.2)

pub rows_from_law : (k t : ℕ) (s : List ℕ) (i : ℕ) (d : List ℕ) (w : Bool)
    → rows_from k t s i d w ≡ (rows t s >>= λ e. Some (e.1, sets d i e.0, w || wide k e.0))
unfolding rows_from rows wide
rows_from_law k zero s i d w = rw (← or_none w)
rows_from_law k (suc t) s i d w =
    step (mask_line s) (λ l. rows_from_law k t l.1 (i + 1) (set d i l.0) (w || outside k l.0))
  where
    Line : Type 0
    Line = ℕ × List ℕ

    Lines : Type 0
    Lines = List ℕ × List ℕ

    All : Type 0
    All = List ℕ × List ℕ × Bool

    end : ℕ → List ℕ → Bool → Lines → Option All
    end j d w e = Some (e.1, sets d j e.0, w || wide k e.0)

    run : Line → Option All
    run l = rows_from k t l.1 (i + 1) (set d i l.0) (w || outside k l.0)

    join : (l : Line) (q : Option Lines) → (q >>= end (i + 1) (set d i l.0) (w || outside k l.0)) ≡ ((q >>= λ e. Some (l.0 ∷ e.0, e.1)) >>= end i d w)
    join l None = refl
    join l (Some e) = rw (add-one i, or_assoc w (outside k l.0) (wide k e.0))

    step : (o : Option Line) → ((l : Line) → run l ≡ (rows t l.1 >>= end (i + 1) (set d i l.0) (w || outside k l.0)))
        → (o >>= run) ≡ ((o >>= λ l. rows t l.1 >>= λ e. Some (l.0 ∷ e.0, e.1)) >>= end i d w)
    step None ih = refl
    step (Some l) ih = ih l ∙ join l (rows t l.1)

-- ---- a product line
pub product_first : (s : List ℕ) → mask_field s ≡ None → product_line s ≡ None
unfolding product_line
product_first s e = rw e

pub product_second : (s t : List ℕ) (x : ℕ) → mask_field s ≡ Some (x, t) → mask_line t ≡ None → product_line s ≡ None
unfolding product_line
product_second s t x e f = rw (e, f)

pub product_is : (s t u : List ℕ) (x y : ℕ) → mask_field s ≡ Some (x, t) → mask_line t ≡ Some (y, u) → product_line s ≡ Some (x, y, u)
unfolding product_line
product_is s t u x y e f = rw (e, f)

pub product_at : (s : List ℕ) (u x y w : ℕ) → product_line (take (length s - u) (drop u s)) ≡ Some (x, y, drop w (take (length s - u) (drop u s)))
    → product_line (drop u s) ≡ Some (x, y, drop (u + w) s)
product_at s u x y w e = read_at product_line s u _ e ∙ ap (λ (t : List ℕ). Some (x, y, t)) (rest_at s u w)
