-- The lines under the first two, as the code reads them.
--   products_part, rows_part, run_of_body  the two parts and the whole, with the buffers and the flags that the loops keep
--   products_unnamed .. run_is       their cases
--   body_run                         the whole gives the body, the buffers written, and the flags
--   products_at, rows_at             products and rows read at a part of the text
-- Assumes nothing.
use Rattle.std.specs.Prelude.{ℕ, zero, suc, ◌+◌, ◌-◌, ◌<◌, ◌≤◌, ◌≡◌, refl, List, [], ◌∷◌, Bool, true, false, ◌||◌, length, take, drop, Option, None, Some}
use Rattle.std.proofs.Common.{ap, ◌∙◌, arith}
use Rattle.std.proofs.lemmas.List.Edits.{sets}
use Rattle.kinds.specs.Sizes.{given}
use Rattle.words.specs.Masks.{wide, zero_in}
use Rattle.text.specs.Reading.{◌>>=◌}
use Rattle.text.specs.Line.{name_line}
use Rattle.text.specs.laws.Line.{read_at, rest_at}
use Rattle.formula_files.specs.lines.Formula.{products, rows, body, ended, product_names, row_name}
use Rattle.formula_files.specs.lines.Buffered.{products_from, rows_from, products_part, rows_part, run_of_body}
use Rattle.formula_files.specs.lines.laws.Loops.{products_from_law, rows_from_law}

-- ---- the body, as the code reads it
module _ (n m k : ℕ) (s a b : List ℕ) where
  pub products_unnamed : name_line product_names s ≡ None → products_part n m k s a b ≡ None
  unfolding products_part
  products_unnamed e = rw e

  pub products_named : (u : List ℕ) → name_line product_names s ≡ Some u → products_part n m k s a b ≡ products_from n m k u 0 a b false false
  unfolding products_part
  products_named u e = rw e

module _ (k t : ℕ) (s d : List ℕ) where
  pub rows_unnamed : name_line row_name s ≡ None → rows_part k t s d ≡ None
  unfolding rows_part
  rows_unnamed e = rw e

  pub rows_short : (v : List ℕ) → name_line row_name s ≡ Some v → rows_from k t v 0 d false ≡ None → rows_part k t s d ≡ None
  unfolding rows_part
  rows_short v e f = rw (e, f)

  pub rows_more : (v x d₁ : List ℕ) (w : Bool) → name_line row_name s ≡ Some v → rows_from k t v 0 d false ≡ Some (x, d₁, w) → ended x ≡ false → rows_part k t s d ≡ None
  unfolding rows_part
  rows_more v x d₁ w e f g = rw (e, f, g)

  pub rows_are : (v x d₁ : List ℕ) (w : Bool) → name_line row_name s ≡ Some v → rows_from k t v 0 d false ≡ Some (x, d₁, w) → ended x ≡ true → rows_part k t s d ≡ Some (d₁, w)
  unfolding rows_part
  rows_are v x d₁ w e f g = rw (e, f, g)

module _ (n m k t : ℕ) (s a b d : List ℕ) where
  pub run_1 : products_part n m k s a b ≡ None → run_of_body n m k t s a b d ≡ None
  unfolding run_of_body
  run_1 e = rw e

  pub run_2 : (u a₁ b₁ : List ℕ) (w z : Bool) → products_part n m k s a b ≡ Some (u, a₁, b₁, w, z) → rows_part k t u d ≡ None → run_of_body n m k t s a b d ≡ None
  unfolding run_of_body
  run_2 u a₁ b₁ w z e f = rw (e, f)

  pub run_is : (u a₁ b₁ d₁ : List ℕ) (w z w' o : Bool) → products_part n m k s a b ≡ Some (u, a₁, b₁, w, z) → rows_part k t u d ≡ Some (d₁, w')
      → o ≡ (w || w') → run_of_body n m k t s a b d ≡ Some (a₁, b₁, d₁, o, z)
  unfolding run_of_body
  run_is u a₁ b₁ d₁ w z w' o e f g = rw (e, f, g)

pub ended_not : (s : List ℕ) (i : ℕ) → i < length s → ended (drop i s) ≡ false
unfolding ended
ended_not [] i h = absurd (omega arith)
ended_not (b ∷ s) zero h = refl
ended_not (b ∷ s) (suc i) h = ended_not s i (omega arith)

pub ended_yes : (s : List ℕ) (i : ℕ) → length s ≤ i → ended (drop i s) ≡ true
unfolding ended
ended_yes [] zero h = refl
ended_yes [] (suc i) h = refl
ended_yes (b ∷ s) zero h = absurd (omega arith)
ended_yes (b ∷ s) (suc i) h = ended_yes s i (omega arith)

-- what it comes to
unfoldable pub body_kept : (n m k : ℕ) (a b d : List ℕ) → List ℕ × List ℕ × List ℕ → Option (List ℕ × List ℕ × List ℕ × Bool × Bool)
body_kept n m k a b d e = Some (sets a 0 e.0, sets b 0 e.1, sets d 0 e.2, (wide n e.0 || wide m e.1) || wide k e.2, zero_in e.0 || zero_in e.1)

pub body_run : (n m k t : ℕ) (s a b d : List ℕ) → run_of_body n m k t s a b d ≡ (body k t s >>= body_kept n m k a b d)
unfolding run_of_body products_part rows_part body body_kept
body_run n m k t s a b d = first (name_line product_names s)
  where
    fourth : (p : List ℕ × List ℕ × List ℕ) (q : Option (List ℕ × List ℕ))
        → (◌>>=◌ {A = List ℕ × Bool} {B = List ℕ × List ℕ × List ℕ × Bool × Bool}
        (◌>>=◌ {A = List ℕ × List ℕ × Bool} {B = List ℕ × Bool} (q >>= λ e. Some (e.1, sets d 0 e.0, false || wide k e.0)) λ r. given
        (ended r.0) (r.1, r.2)) λ r. Some (
          sets a 0 p.0,
          sets b 0 p.1,
          r.0,
          (false || (wide n p.0 || wide m p.1)) || r.1,
          false ||
              (zero_in p.0 || zero_in p.1),
        ))
        ≡ ((q >>= λ r. given (ended r.1) (p.0, p.1, r.0)) >>= body_kept n m k a b d)
    fourth p None = refl
    fourth p (Some e) = fifth (ended e.1)
      where
        fifth : (o : Bool) → (◌>>=◌ {A = List ℕ × Bool} {B = List ℕ × List ℕ × List ℕ × Bool × Bool}
            (given o (sets d 0 e.0, wide k e.0))
            λ r. Some (sets a 0 p.0, sets b 0 p.1, r.0, (wide n p.0 || wide m p.1) || r.1, zero_in p.0 || zero_in p.1))
            ≡ (given {A = List ℕ × List ℕ × List ℕ} o (p.0, p.1, e.0) >>= body_kept n m k a b d)
        fifth true = refl
        fifth false = refl

    third : (p : List ℕ × List ℕ × List ℕ) (o : Option (List ℕ))
        → (◌>>=◌ {A = List ℕ × Bool} {B = List ℕ × List ℕ × List ℕ × Bool × Bool}
        (o >>= λ v. rows_from k t v 0 d false >>= λ r. given (ended r.0) (r.1, r.2)) λ r. Some
        (sets a 0 p.0, sets b 0 p.1, r.0, (false || (wide n p.0 || wide m p.1)) || r.1, false || (zero_in p.0 || zero_in p.1)))
        ≡ ((o >>= λ v. rows t v >>= λ r. given (ended r.1) (p.0, p.1, r.0)) >>= body_kept n m k a b d)
    third p None = refl
    third p (Some v) = rw (rows_from_law k t v 0 d false) (fourth p (rows t v))

    second : (q : Option (List ℕ × List ℕ × List ℕ))
        → (◌>>=◌ {A = List ℕ × List ℕ × List ℕ × Bool × Bool} {B = List ℕ × List ℕ × List ℕ × Bool × Bool}
        (q >>= λ e. Some (e.2, sets a 0 e.0, sets b 0 e.1, false || (wide n e.0 || wide m e.1), false || (zero_in e.0 || zero_in e.1)))
        λ p. rows_part k t p.0 d >>= λ r. Some (p.1, p.2, r.0, p.3 || r.1, p.4))
        ≡ ((q >>= λ p. name_line row_name p.2 >>= λ v. rows t v >>= λ r. given (ended r.1) (p.0, p.1, r.0)) >>= body_kept n m k a b d)
    second None = refl
    second (Some p) = third p (name_line row_name p.2)

    first : (o : Option (List ℕ))
        → (◌>>=◌ {A = List ℕ × List ℕ × List ℕ × Bool × Bool} {B = List ℕ × List ℕ × List ℕ × Bool × Bool}
        (o >>= λ u. products_from n m k u 0 a b false false) λ p. rows_part k t p.0 d >>= λ r. Some (p.1, p.2, r.0, p.3 || r.1, p.4))
        ≡ ((o >>= λ u. products k u >>= λ p. name_line row_name p.2 >>= λ v. rows t v >>= λ r. given (ended r.1) (p.0, p.1, r.0)) >>= body_kept n m k a b d)
    first None = refl
    first (Some u) = rw (products_from_law n m k u 0 a b false false) (second (products k u))

-- ---- the parts of the body, read at the part of s from u on
module _ (s : List ℕ) (u : ℕ) where
  pub products_at : (n m k : ℕ) (a b a₁ b₁ : List ℕ) (v : ℕ) (w z : Bool)
      → products_from n m k (take (length s - u) (drop u s)) 0 a b false false ≡ Some (drop v (take (length s - u) (drop u s)), a₁, b₁, w, z)
      → products_from n m k (drop u s) 0 a b false false ≡ Some (drop (u + v) s, a₁, b₁, w, z)
  products_at n m k a b a₁ b₁ v w z e =
      read_at (λ t. products_from n m k t 0 a b false false) s u _ e ∙ ap (λ (x : List ℕ). Some (x, a₁, b₁, w, z)) (rest_at s u v)

  pub rows_at : (k t : ℕ) (d d₁ : List ℕ) (v : ℕ) (w : Bool)
      → rows_from k t (take (length s - u) (drop u s)) 0 d false ≡ Some (drop v (take (length s - u) (drop u s)), d₁, w)
      → rows_from k t (drop u s) 0 d false ≡ Some (drop (u + v) s, d₁, w)
  rows_at k t d d₁ v w e = read_at (λ x. rows_from k t x 0 d false) s u _ e ∙ ap (λ (x : List ℕ). Some (x, d₁, w)) (rest_at s u v)
