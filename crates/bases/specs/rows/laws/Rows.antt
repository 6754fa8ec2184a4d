-- What a row says, and that it is the only one.
--   mask_bit, mask_below, mask_bits   the digits of a mask; every number below 2 ^ n is the mask of n of them
--   mask_form          what a mask names is the combination with its digits
--   row_span           what a row names is in the span
--   row_xor, row_none, row_one   what a sum of rows names is the sum of what each does; 0 names none, 2 ^ i product i
--   row_below, row_sum_law, row_only   the row of a form
-- Assumes nothing.
use Rattle.std.specs.Prelude.{◌≡◌, Bool, true, false, List, [], ◌∷◌, ℕ, zero, suc, ◌+◌, ◌*◌, ◌/◌, ◌%◌, ◌^◌, ◌<◌, length, get_or}
use Rattle.std.proofs.Math.Path.{refl}
use Rattle.std.proofs.Common.{sym, ap, ap₂, ◌∙◌, subst, arith, div-one}
use Rattle.std.proofs.Math.Nat.{pow-succ', suc_inj}
use Rattle.std.specs.Int.Bits.{bit_xor, xor_zero_l, xor_zero_r}
use Rattle.linear.specs.Span.{Span, combination, Independent}
use Rattle.linear.specs.Coefficients.{coefficients}
use Rattle.linear.specs.Bit.{bit, bit_of}
use Rattle.linear.specs.Word.{word, scale_w}
use Rattle.linear.specs.laws.Space.{add_assoc, add_left_comm, plus_scale}
use Rattle.linear.specs.laws.Span.{span_cons, span_nul}
use Rattle.linear.proofs.laws.Coefficients.{coefficients_length, coefficients_sum, coefficients_only}
use Rattle.linear.specs.laws.Bit.{bit_suc, bit_of_xor, bit_zero}
use Rattle.forms.specs.Row.{row_form}
use Rattle.bases.specs.rows.Rows.{row_bit, mask_of, row_of}

-- ---- a mask by its lowest bit and the rest
half : (c : Bool) (m : ℕ) → (row_bit c + 2 * m) / 2 ≡ m
half false m = omega arith
half true m = omega arith

pub low : (c : Bool) (m : ℕ) → bit (row_bit c + 2 * m) 0 ≡ c
unfolding bit
low false m = ap (λ (x : ℕ). bit_of (x % 2)) (div-one (0 + 2 * m)) ∙ ap bit_of (let e : (0 + 2 * m) % 2 ≡ 0 = omega arith in e)
low true m = ap (λ (x : ℕ). bit_of (x % 2)) (div-one (1 + 2 * m)) ∙ ap bit_of (let e : (1 + 2 * m) % 2 ≡ 1 = omega arith in e)

pub high : (c : Bool) (m k : ℕ) → bit (row_bit c + 2 * m) (suc k) ≡ bit m k
high c m k = bit_suc (row_bit c + 2 * m) k ∙ ap (λ (x : ℕ). bit x k) (half c m)

pub mask_bit : (cs : List Bool) (i : ℕ) → bit (mask_of cs) i ≡ get_or cs i false
unfolding mask_of
mask_bit [] i = bit_zero i
mask_bit (c ∷ cs) zero = low c (mask_of cs)
mask_bit (c ∷ cs) (suc i) = high c (mask_of cs) i ∙ mask_bit cs i

pub mask_below : (cs : List Bool) → mask_of cs < 2 ^ length cs
unfolding mask_of
mask_below [] = omega arith
mask_below (c ∷ cs) = go c (mask_below cs)
  where
    go : (c : Bool) → mask_of cs < 2 ^ length cs → row_bit c + 2 * mask_of cs < 2 ^ suc (length cs)
    go false h = omega (arith, pow-succ' 2 (length cs))
    go true h = omega (arith, pow-succ' 2 (length cs))

split : (row : ℕ) → (c : Bool) × (row ≡ row_bit c + 2 * (row / 2))
split row = go (row % 2) refl
  where
    go : (d : ℕ) → row % 2 ≡ d → (c : Bool) × (row ≡ row_bit c + 2 * (row / 2))
    go zero e = (false, omega arith)
    go (suc zero) e = (true, omega arith)
    go (suc (suc d)) e = absurd (omega arith)

pub mask_bits : (n row : ℕ) → row < 2 ^ n → (cs : List Bool) × (length cs ≡ n) × (row ≡ mask_of cs)
unfolding mask_of
mask_bits zero row h = ([], refl, omega arith)
mask_bits (suc n) row h =
    let s = split row in
    let r = mask_bits n (row / 2) (omega (arith, h, pow-succ' 2 n)) in
    (s.0 ∷ r.0, ap suc r.1, s.1 ∙ ap (λ (m : ℕ). row_bit s.0 + 2 * m) r.2)

-- ---- the sum that a row names, by its lowest bit and the rest
shifted : (xs : List ℕ) (c : Bool) (m k : ℕ) → row_form xs (row_bit c + 2 * m) (suc k) ≡ row_form xs m k
unfolding row_form
shifted [] c m k = refl
shifted (x ∷ xs) c m k = ap₂ (λ (b : Bool) (r : ℕ). bit_xor (scale_w b x) r) (high c m k) (shifted xs c m (suc k))

row_cons : (x : ℕ) (xs : List ℕ) (c : Bool) (m : ℕ) → row_form (x ∷ xs) (row_bit c + 2 * m) 0 ≡ bit_xor (scale_w c x) (row_form xs m 0)
unfolding row_form
row_cons x xs c m = ap₂ (λ (b : Bool) (r : ℕ). bit_xor (scale_w b x) r) (low c m) (shifted xs c m 0)

pub mask_form : (xs : List ℕ) (cs : List Bool) → length cs ≡ length xs → row_form xs (mask_of cs) 0 ≡ combination word cs xs
unfolding row_form mask_of combination
mask_form [] [] l = refl
mask_form [] (c ∷ cs) l = absurd (omega arith)
mask_form (x ∷ xs) [] l = absurd (omega arith)
mask_form (x ∷ xs) (c ∷ cs) l = row_cons x xs c (mask_of cs) ∙ ap (bit_xor (scale_w c x)) (mask_form xs cs (suc_inj l))

pub row_span : (xs : List ℕ) (row k : ℕ) → Span word xs (row_form xs row k)
unfolding row_form
row_span [] row k = span_nul word []
row_span (x ∷ xs) row k = span_cons word (bit row k) (row_span xs row (suc k))

-- ---- sums of rows, and rows of one product
pub row_xor : (xs : List ℕ) (a b k : ℕ) → row_form xs (bit_xor a b) k ≡ bit_xor (row_form xs a k) (row_form xs b k)
unfolding row_form
row_xor [] a b k = refl
row_xor (x ∷ xs) a b k =
    ap₂ bit_xor (ap (λ (c : Bool). scale_w c x) (bit_of_xor a b k) ∙ plus_scale word (bit a k) (bit b k) x) (row_xor xs a b (suc k))
    ∙ add_assoc word s t (bit_xor u w) ∙ ap (bit_xor s) (add_left_comm word t u w) ∙ sym (add_assoc word s u (bit_xor t w))
  where
    s : ℕ
    s = scale_w (bit a k) x

    t : ℕ
    t = scale_w (bit b k) x

    u : ℕ
    u = row_form xs a (suc k)

    w : ℕ
    w = row_form xs b (suc k)

pub row_none : (xs : List ℕ) (k : ℕ) → row_form xs 0 k ≡ 0
unfolding row_form
row_none [] k = refl
row_none (x ∷ xs) k = ap₂ (λ (b : Bool) (r : ℕ). bit_xor (scale_w b x) r) (bit_zero k) (row_none xs (suc k)) ∙ xor_zero_l 0

pub row_one : (xs : List ℕ) (i : ℕ) → row_form xs (2 ^ i) 0 ≡ get_or xs i 0
row_one [] i = unfold row_form in refl
row_one (x ∷ xs) zero = row_cons x xs true 0 ∙ ap (bit_xor x) (row_none xs 0) ∙ xor_zero_r x
row_one (x ∷ xs) (suc i) =
    ap (λ (m : ℕ). row_form (x ∷ xs) m 0) (let e : 2 ^ suc i ≡ 0 + 2 * 2 ^ i = omega (arith, pow-succ' 2 i) in e) ∙ row_cons x xs false (2 ^ i)
    ∙ xor_zero_l (row_form xs (2 ^ i) 0) ∙ row_one xs i

-- ---- the row of a form
pub row_below : (xs : List ℕ) (v : ℕ) → row_of xs v < 2 ^ length xs
unfolding row_of
row_below xs v = subst (λ (n : ℕ). mask_of (coefficients word xs v) < 2 ^ n) (coefficients_length word xs v) (mask_below (coefficients word xs v))

-- the products that the row names sum to v
pub row_sum_law : (xs : List ℕ) (v : ℕ) → Span word xs v → row_form xs (row_of xs v) 0 ≡ v
unfolding row_of
row_sum_law xs v s = mask_form xs (coefficients word xs v) (coefficients_length word xs v) ∙ coefficients_sum word xs v s

-- and no other row does
pub row_only : (xs : List ℕ) (v row : ℕ) → Independent word xs → row < 2 ^ length xs → row_form xs row 0 ≡ v → row ≡ row_of xs v
unfolding row_of
row_only xs v row h l e =
    let r = mask_bits (length xs) row l in
    r.2
    ∙ ap mask_of (coefficients_only word xs v h r.0 r.1 (sym (mask_form xs r.0 r.1) ∙ ap (λ (m : ℕ). row_form xs m 0) (sym r.2) ∙ e))
