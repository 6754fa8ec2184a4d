-- The lines under the first two as they are read into lent buffers, with the flags that the reader keeps. laws/Body: the whole gives the body, the buffers
-- written, and the flags.
--   products_from, rows_from   the loops, from their i-th line on
--   products_part, rows_part   the two parts: a fixed line, then such lines
--   run_of_body                  the whole
-- Assumes nothing.
use Rattle.std.specs.Prelude.{ℕ, zero, suc, ◌+◌, List, Bool, ◌||◌, false, set, eqb, Option, Some}
use Rattle.words.specs.Masks.{outside}
use Rattle.text.specs.Line.{mask_line, name_line}
use Rattle.formula_files.specs.lines.Formula.{product_line, ended, product_names, row_name}
use Rattle.kinds.specs.Sizes.{given}
use Rattle.text.specs.Reading.{◌>>=◌}

-- k product lines from s on, the i-th next; a and b as far as they are written, and the two flags
unfoldable pub products_from : (n m : ℕ) → ℕ → List ℕ → ℕ → List ℕ → List ℕ → Bool → Bool → Option (List ℕ × List ℕ × List ℕ × Bool × Bool)
products_from n m zero s i a b w z = Some (s, a, b, w, z)
products_from n m (suc k) s i a b w z = do
  l ← product_line s
  products_from n m k l.2 (i + 1) (set a i l.0) (set b i l.1)
      ((w || outside n l.0) || outside m l.1)
      ((z || eqb l.0 0) || eqb l.1 0)

unfoldable pub rows_from : ℕ → ℕ → List ℕ → ℕ → List ℕ → Bool → Option (List ℕ × List ℕ × Bool)
rows_from k zero s i d w = Some (s, d, w)
rows_from k (suc t) s i d w = do
  l ← mask_line s
  rows_from k t l.1 (i + 1) (set d i l.0) (w || outside k l.0)

unfoldable pub products_part : (n m k : ℕ) (s a b : List ℕ) → Option (List ℕ × List ℕ × List ℕ × Bool × Bool)
products_part n m k s a b = do
  u ← name_line product_names s
  products_from n m k u 0 a b false false

unfoldable pub rows_part : (k t : ℕ) (s d : List ℕ) → Option (List ℕ × Bool)
rows_part k t s d = do
  v ← name_line row_name s
  r ← rows_from k t v 0 d false
  given (ended r.0) (r.1, r.2)

unfoldable pub run_of_body : (n m k t : ℕ) (s a b d : List ℕ) → Option (List ℕ × List ℕ × List ℕ × Bool × Bool)
run_of_body n m k t s a b d = do
  p ← products_part n m k s a b
  r ← rows_part k t p.0 d
  Some (p.1, p.2, r.0, p.3 || r.1, p.4)
