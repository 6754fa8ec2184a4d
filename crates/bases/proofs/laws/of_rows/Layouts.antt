-- What a row says in any layout, and that it is the only one.
--   row_says     the row of a sum of the products says this sum
--   row_alone    no other row of as many digits does, if the products are independent
--   row_fits     it has a digit for each product
--   rows_length  how many words the rows have
-- Assumes nothing.
use Rattle.std.specs.Prelude.{◌≡◌, refl, List, [], ◌∷◌, map, ℕ, zero, suc, ◌+◌, ◌^◌, ◌<◌, length, get_or}
use Rattle.std.proofs.Common.{sym, ap, ap₂, ◌∙◌, subst, zero-add, arith}
use Rattle.std.proofs.Math.Decide.{dec_lt}
use Rattle.std.proofs.lemmas.List.{length-map}
use Rattle.std.proofs.Math.ListN.{get_or-eq_default}
use Rattle.linear.specs.Bit.{bit}
use Rattle.linear.specs.Span.{Span, combination, Independent}
use Rattle.linear.specs.Coefficients.{coefficients}
use Rattle.linear.specs.Planes.{Three, n0, n1, n2, trit, Planes, coord3}
use Rattle.linear.specs.Trit.{trits}
use Rattle.linear.specs.laws.Bit.{bit_below}
use Rattle.linear.proofs.laws.Coefficients.{coefficients_length, coefficients_sum, coefficients_only}
use Rattle.linear.specs.laws.Planes.{nonzero, is_two, planes_ext, add3, scale3}
use Rattle.layouts.specs.declared.Layout.{Layout}
use Rattle.layouts.specs.declared.Layout.TheVariants as layout
use Rattle.layouts.specs.Layout.{form_space, row_words}
use Rattle.layouts.proofs.laws.Layout.{apart_length}
use Rattle.bases.specs.rows.Rows.{mask_of, row_of}
use Rattle.bases.specs.rows.Layouts.{Row, digits_of, row_digits, row_in, row_sum, RowFits, rows_in}
use Rattle.bases.specs.rows.laws.Digits.{nonzero_at, two_at}
use Rattle.bases.specs.rows.laws.Rows.{mask_below, row_below, row_sum_law, row_only}

-- ---- three elements
-- the digits of a row from k on, n of them
unfoldable digits_from : Planes → ℕ → ℕ → List Three
digits_from row k zero = []
digits_from row k (suc n) = coord3 row k ∷ digits_from row (suc k) n

digit_trit : (c : Three) → trit (nonzero c) (is_two c) ≡ c
digit_trit n0 = refl
digit_trit n1 = refl
digit_trit n2 = refl

digit_at : (cs : List Three) (i : ℕ) → coord3 (digits_of cs) i ≡ get_or cs i n0
unfolding digits_of
digit_at cs i = ap₂ trit (nonzero_at cs i) (two_at cs i) ∙ digit_trit (get_or cs i n0)

from_length : (row : Planes) (k n : ℕ) → length (digits_from row k n) ≡ n
unfolding digits_from
from_length row k zero = refl
from_length row k (suc n) = ap suc (from_length row (suc k) n)

from_at : (row : Planes) (k n i : ℕ) → i < n → get_or (digits_from row k n) i n0 ≡ coord3 row (k + i)
unfolding digits_from
from_at row k zero i h = absurd (omega arith)
from_at row k (suc n) zero h = ap (coord3 row) (let e : k ≡ k + 0 = omega arith in e)
from_at row k (suc n) (suc i) h = from_at row (suc k) n i (omega arith) ∙ ap (coord3 row) (let e : suc k + i ≡ k + suc i = omega arith in e)

says_combination : (xs : List Planes) (row : Planes) (k : ℕ) → row_digits xs row k ≡ combination trits (digits_from row k (length xs)) xs
unfolding row_digits digits_from combination
says_combination [] row k = refl
says_combination (x ∷ xs) row k = ap (add3 (scale3 (coord3 row k) x)) (says_combination xs row (suc k))

-- lists of digits of one length that agree at every number
same_digits : (cs ds : List Three) → length cs ≡ length ds → ((i : ℕ) → i < length cs → get_or cs i n0 ≡ get_or ds i n0) → cs ≡ ds
same_digits [] [] l h = refl
same_digits [] (b ∷ ds) l h = absurd (omega arith)
same_digits (a ∷ cs) [] l h = absurd (omega arith)
same_digits (a ∷ cs) (b ∷ ds) l h =
    ap₂ {A = Three} {B = List Three} (λ x r. x ∷ r) (h 0 (omega arith)) (same_digits cs ds (omega arith) (λ i k. h (suc i) (omega arith)))

digits_back : (cs : List Three) → digits_from (digits_of cs) 0 (length cs) ≡ cs
digits_back cs =
    same_digits (digits_from (digits_of cs) 0 (length cs)) cs (from_length (digits_of cs) 0 (length cs))
    (λ i h. from_at (digits_of cs) 0 (length cs) i (omega (arith, from_length (digits_of cs) 0 (length cs))) ∙ digit_at cs (0 + i) ∙ ap (λ (n : ℕ). get_or cs n n0) (zero-add i))

digits_says : (xs : List Planes) (v : Planes) → Span trits xs v → row_digits xs (digits_of (coefficients trits xs v)) 0 ≡ v
digits_says xs v s =
    let cs : List Three = coefficients trits xs v in
    says_combination xs (digits_of cs) 0
    ∙ ap (λ (n : ℕ). combination trits (digits_from (digits_of cs) 0 n) xs) (sym (coefficients_length trits xs v))
    ∙ ap (λ (ds : List Three). combination trits ds xs) (digits_back cs)
    ∙ coefficients_sum trits xs v s

digits_alone : (xs : List Planes) (v row : Planes) → Independent trits xs → row.0.0 < 2 ^ length xs → row_digits xs row 0 ≡ v
    → row ≡ digits_of (coefficients trits xs v)
digits_alone xs v row h l e = planes_ext row (digits_of cs) (λ i. at i (dec_lt i n) ∙ sym (digit_at cs i))
  where
    n : ℕ
    n = length xs

    cs : List Three
    cs = coefficients trits xs v

    only : digits_from row 0 n ≡ cs
    only = coefficients_only trits xs v h (digits_from row 0 n) (from_length row 0 n) (sym (says_combination xs row 0) ∙ e)

    at : (i : ℕ) → Dec (i < n) → coord3 row i ≡ get_or cs i n0
    at i (yes k) = sym (from_at row 0 n i k ∙ ap (coord3 row) (let z : 0 + i ≡ i = omega arith in z)) ∙ ap (λ (ds : List Three). get_or ds i n0) only
    at i (no k) =
        ap (λ b. trit b (bit row.0.1 i)) (bit_below row.0.0 n i l (omega arith))
        ∙ sym (get_or-eq_default cs n0 {n = i} (omega (arith, coefficients_length trits xs v)))

-- ---- any layout
pub row_says : (l : Layout) (xs : List (form_space l).Vec) (v : (form_space l).Vec) → Span (form_space l) xs v → row_sum l xs (row_in l xs v) ≡ v
row_says layout.Narrow = row_sum_law
row_says layout.Wide = row_sum_law
row_says layout.Ternary = digits_says

pub row_alone : (l : Layout) (xs : List (form_space l).Vec) (v : (form_space l).Vec) (row : Row l) → Independent (form_space l) xs
    → RowFits l (length xs) row → row_sum l xs row ≡ v → row ≡ row_in l xs v
row_alone layout.Narrow = row_only
row_alone layout.Wide = row_only
row_alone layout.Ternary = digits_alone

pub row_fits : (l : Layout) (xs : List (form_space l).Vec) (v : (form_space l).Vec) → RowFits l (length xs) (row_in l xs v)
unfolding digits_of
row_fits layout.Narrow xs v = row_below xs v
row_fits layout.Wide xs v = row_below xs v
row_fits layout.Ternary xs v =
    let cs : List Three = coefficients trits xs v in
    subst (λ (n : ℕ). mask_of (map nonzero cs) < 2 ^ n) (length-map cs nonzero ∙ coefficients_length trits xs v) (mask_below (map nonzero cs))

pub rows_length : (l : Layout) (xs ts : List (form_space l).Vec) → length (rows_in l xs ts) ≡ row_words l (length ts)
rows_length layout.Narrow xs ts = length-map ts (row_of xs)
rows_length layout.Wide xs ts = length-map ts (row_of xs)
rows_length layout.Ternary xs ts = apart_length (λ t. (row_in layout.Ternary xs t).0.0) (λ t. (row_in layout.Ternary xs t).0.1) ts
