-- What the code's answer on the lines under the first two says of them.
--   body_long, body_lengths   a body has as many factors and rows as it should
--   body_told, body_none      what the answer says
-- Assumes nothing.
use Rattle.std.specs.Prelude.{ℕ, zero, suc, ◌≡◌, refl, List, ◌∷◌, Bool, true, false, ◌||◌, length, Option, None, Some}
use Rattle.std.proofs.Common.{sym, ap, ◌∙◌, arith}
use Rattle.std.proofs.lemmas.List.Edits.{sets}
use Rattle.kinds.specs.Sizes.{given}
use Rattle.words.specs.Masks.{wide, zero_in}
use Rattle.text.specs.Reading.{◌>>=◌}
use Rattle.text.specs.Line.{name_line, mask_line}
use Rattle.formula_files.specs.lines.Formula.{product_line, products, rows, body, ended, product_names, row_name}
use Rattle.formula_files.specs.lines.Buffered.{run_of_body}
use Rattle.formula_files.specs.lines.laws.Body.{body_kept, body_run}

-- how long the lists are
abbrev Long : ℕ → Option (List ℕ × List ℕ × List ℕ) → Type 0
Long k None = Unit {0}
Long k (Some d) = (length d.0 ≡ k) × (length d.1 ≡ k)

products_long : (k : ℕ) (s : List ℕ) → Long k (products k s)
unfolding products
products_long zero s = (refl, refl)
products_long (suc k) s = step (product_line s) (λ l. products_long k l.2)
  where
    join : (l : ℕ × ℕ × List ℕ) (q : Option (List ℕ × List ℕ × List ℕ)) → Long k q → Long (suc k) (q >>= λ e. Some (l.0 ∷ e.0, l.1 ∷ e.1, e.2))
    join l None h = tt
    join l (Some d) h = (ap suc h.0, ap suc h.1)

    step : (o : Option (ℕ × ℕ × List ℕ)) → ((l : ℕ × ℕ × List ℕ) → Long k (products k l.2)) → Long (suc k) (o >>= λ l. products k l.2 >>= λ e. Some (l.0 ∷ e.0, l.1 ∷ e.1, e.2))
    step None h = tt
    step (Some l) h = join l (products k l.2) (h l)

abbrev LongRows : ℕ → Option (List ℕ × List ℕ) → Type 0
LongRows t None = Unit {0}
LongRows t (Some d) = length d.0 ≡ t

rows_long : (t : ℕ) (s : List ℕ) → LongRows t (rows t s)
unfolding rows
rows_long zero s = refl
rows_long (suc t) s = step (mask_line s) (λ l. rows_long t l.1)
  where
    join : (l : ℕ × List ℕ) (q : Option (List ℕ × List ℕ)) → LongRows t q → LongRows (suc t) (q >>= λ e. Some (l.0 ∷ e.0, e.1))
    join l None h = tt
    join l (Some d) h = ap suc h

    step : (o : Option (ℕ × List ℕ)) → ((l : ℕ × List ℕ) → LongRows t (rows t l.1)) → LongRows (suc t) (o >>= λ l. rows t l.1 >>= λ e. Some (l.0 ∷ e.0, e.1))
    step None h = tt
    step (Some l) h = join l (rows t l.1) (h l)

abbrev LongBody : ℕ → ℕ → Option (List ℕ × List ℕ × List ℕ) → Type 0
LongBody k t None = Unit {0}
LongBody k t (Some d) = (length d.0 ≡ k) × (length d.1 ≡ k) × (length d.2 ≡ t)

pub body_long : (k t : ℕ) (s : List ℕ) → LongBody k t (body k t s)
unfolding body
body_long k t s = first (name_line product_names s)
  where
    fourth : (p : List ℕ × List ℕ × List ℕ) (r : List ℕ × List ℕ) (o : Bool) → Long k (Some p) → LongRows t (Some r) → LongBody k t (given o (p.0, p.1, r.0))
    fourth p r true h g = (h.0, h.1, g)
    fourth p r false h g = tt

    third : (p : List ℕ × List ℕ × List ℕ) (q : Option (List ℕ × List ℕ)) → Long k (Some p) → LongRows t q → LongBody k t (q >>= λ r. given (ended r.1) (p.0, p.1, r.0))
    third p None h g = tt
    third p (Some r) h g = fourth p r (ended r.1) h g

    second : (p : List ℕ × List ℕ × List ℕ) (o : Option (List ℕ)) → Long k (Some p) → LongBody k t (o >>= λ v. rows t v >>= λ r. given (ended r.1) (p.0, p.1, r.0))
    second p None h = tt
    second p (Some v) h = third p (rows t v) h (rows_long t v)

    middle : (q : Option (List ℕ × List ℕ × List ℕ)) → Long k q → LongBody k t (q >>= λ p. name_line row_name p.2 >>= λ v. rows t v >>= λ r. given (ended r.1) (p.0, p.1, r.0))
    middle None h = tt
    middle (Some p) h = second p (name_line row_name p.2) h

    first : (o : Option (List ℕ)) → LongBody k t (o >>= λ u. products k u >>= λ p. name_line row_name p.2 >>= λ v. rows t v >>= λ r. given (ended r.1) (p.0, p.1, r.0))
    first None = tt
    first (Some u) = middle (products k u) (products_long k u)

-- all that the code's answer says of the body
pub record Told (n m k t : ℕ) (s a b d a₁ b₁ d₁ : List ℕ) (w z : Bool) : Type 0 where
  pub xs : List ℕ
  pub ys : List ℕ
  pub zs : List ℕ
  pub is : body k t s ≡ Some (xs, ys, zs)
  pub first : a₁ ≡ sets a 0 xs
  pub second : b₁ ≡ sets b 0 ys
  pub third : d₁ ≡ sets d 0 zs
  pub toowide : w ≡ ((wide n xs || wide m ys) || wide k zs)
  pub haszero : z ≡ (zero_in xs || zero_in ys)
  pub xlong : length xs ≡ k
  pub ylong : length ys ≡ k
  pub zlong : length zs ≡ t

abbrev Five : Type 0
Five = List ℕ × List ℕ × List ℕ × Bool × Bool

abbrev get_five : Five → Option Five → Five
get_five d None = d
get_five d (Some x) = x

pub body_told : (n m k t : ℕ) (s a b d a₁ b₁ d₁ : List ℕ) (w z : Bool) → run_of_body n m k t s a b d ≡ Some (a₁, b₁, d₁, w, z) → Told n m k t s a b d a₁ b₁ d₁ w z
unfolding body_kept
body_told n m k t s a b d a₁ b₁ d₁ w z e = go (body k t s) refl (body_long k t s) (sym (body_run n m k t s a b d) ∙ e)
  where
    go : (o : Option (List ℕ × List ℕ × List ℕ)) → body k t s ≡ o → LongBody k t o → (o >>= body_kept n m k a b d) ≡ Some (a₁, b₁, d₁, w, z) → Told n m k t s a b d a₁ b₁ d₁ w z
    go None h l f = absurd (let q : ◌≡◌ {A = ℕ} 0 1 = cc in omega arith)
    go (Some x) h l f =
        let g : ◌≡◌ {A = Five}
        (sets a 0 x.0, sets b 0 x.1, sets d 0 x.2, (wide n x.0 || wide m x.1) || wide k x.2, zero_in x.0 || zero_in x.1)
        (a₁, b₁, d₁, w, z) = ap (get_five (a₁, b₁, d₁, w, z)) f in
        record {
          xs = x.0;
          ys = x.1;
          zs = x.2;
          is = h;
          first = sym (ap (λ (v : Five). v.0) g);
          second = sym (ap (λ (v : Five). v.1) g);
          third = sym (ap (λ (v : Five). v.2) g);
          toowide = sym (ap (λ (v : Five). v.3) g);
          haszero = sym (ap (λ (v : Five). v.4) g);
          xlong = l.0;
          ylong = l.1;
          zlong = l.2;
        }

pub body_none : (n m k t : ℕ) (s a b d : List ℕ) → run_of_body n m k t s a b d ≡ None → body k t s ≡ None
unfolding body_kept
body_none n m k t s a b d e = go (body k t s) (sym (body_run n m k t s a b d) ∙ e)
  where
    go : (o : Option (List ℕ × List ℕ × List ℕ)) → (o >>= body_kept n m k a b d) ≡ None → o ≡ None
    go None f = refl
    go (Some x) f = absurd (let q : ◌≡◌ {A = ℕ} 0 1 = cc in omega arith)

pub body_lengths : (k t : ℕ) (s xs ys zs : List ℕ) → body k t s ≡ Some (xs, ys, zs) → (length xs ≡ k) × (length ys ≡ k) × (length zs ≡ t)
body_lengths k t s xs ys zs e = rw e at (body_long k t s)
