-- The bits of a turned formula.
--   reversed_bit, reversed_below, reversed_nonzero   a mask reversed in its n bits
--   column_bit, column_below                         a column
--   firsts_at, columns_at                            what stands at a place of the new lists
--   turned_tensor                                    the coefficients of the turned formula are the old ones, their three places turned
-- Assumes nothing.
use Rattle.std.specs.Prelude.{◌≡◌, refl, ◌≢◌, Bool, false, ◌&&◌, List, map, ℕ, ◌-◌, ◌^◌, ◌<◌, length, get_or}
use Rattle.std.proofs.Common.{sym, ap, ap₂, ◌∙◌, zero-add, arith}
use Rattle.std.proofs.Math.Decide.{dec_lt}
use Rattle.std.proofs.lemmas.List.{length-map}
use Rattle.linear.specs.Bit.{bit}
use Rattle.linear.specs.laws.Bit.{bit_zero, bit_ext, bit_below}
use Rattle.linear.specs.laws.Finite.{bit_law}
use Rattle.forms.specs.products.laws.Product.{bit_form_of, form_of_below}
use Rattle.maps.specs.Textbook.{sum_to}
use Rattle.maps.specs.laws.Sum.{sum_same}
use Rattle.maps.specs.Generators.{list_of, at_list_of}
use Rattle.formula_check.specs.meaning.Tensor.{tensor}
use Rattle.turning.specs.Turning.{reversed, column, columns}
use Rattle.turning.proofs.laws.Loops.{map_list}

-- ---- a mask reversed
pub reversed_bit : (n x i : ℕ) → i < n → bit (reversed n x) i ≡ bit x (n - 1 - i)
reversed_bit n x i h = bit_form_of n (λ i. bit x (n - 1 - i)) i h

pub reversed_below : (n x : ℕ) → reversed n x < 2 ^ n
reversed_below n x = form_of_below n (λ i. bit x (n - 1 - i))

pub reversed_nonzero : (n x : ℕ) → x < 2 ^ n → x ≢ 0 → reversed n x ≢ 0
reversed_nonzero n x h d e = d (bit_ext x 0 (λ j. go j (dec_lt j n) ∙ sym (bit_zero j)))
  where
    go : (j : ℕ) → Dec (j < n) → bit x j ≡ false
    go j (yes l) =
        ap (bit x) (let q : j ≡ n - 1 - (n - 1 - j) = omega arith in q) ∙ sym (reversed_bit n x (n - 1 - j) (omega arith))
        ∙ ap (λ (y : ℕ). bit y (n - 1 - j)) e ∙ bit_zero (n - 1 - j)
    go j (no l) = bit_below x n j h (omega arith)

-- ---- a column
pub column_bit : (xs : List ℕ) (l t : ℕ) → t < length xs → bit (column xs l) t ≡ bit (get_or xs t 0) l
column_bit xs l t h = bit_form_of (length xs) (λ t. bit (get_or xs t 0) l) t h

pub column_below : (xs : List ℕ) (l : ℕ) → column xs l < 2 ^ length xs
column_below xs l = form_of_below (length xs) (λ t. bit (get_or xs t 0) l)

-- ---- the new lists
list_at : (f : ℕ → ℕ) (c l : ℕ) → l < c → get_or (list_of f 0 c) l 0 ≡ f l
list_at f c l h = at_list_of f 0 c l h ∙ ap f (zero-add l)

pub firsts_at : (n : ℕ) (xs : List ℕ) (l : ℕ) → l < length xs → get_or (map (reversed n) xs) l 0 ≡ reversed n (get_or xs l 0)
firsts_at n xs l h =
    ap (λ (ys : List ℕ). get_or ys l 0) (map_list (reversed n) xs) ∙ list_at (λ l. reversed n (get_or xs l 0)) (length xs) l h

pub columns_at : (xs : List ℕ) (c l t : ℕ) → l < c → t < length xs → bit (get_or (columns xs c) l 0) t ≡ bit (get_or xs t 0) l
columns_at xs c l t h k = ap (λ (x : ℕ). bit x t) (list_at (column xs) c l h) ∙ column_bit xs l t k

-- ---- the coefficients
turn_last : (a b c : Bool) → a && (b && c) ≡ a && (c && b)
turn_last = bit_law (λ a b c. a && (b && c)) (λ a b c. a && (c && b)) refl

pub turned_tensor : (n k : ℕ) (xs ys rows : List ℕ) → length xs ≡ k → length ys ≡ k → (i j t : ℕ) → i < n → j < length rows → t < n
    → tensor (map (reversed n) xs) (columns rows k) (get_or (columns ys n) t 0) i j ≡ tensor xs ys (get_or rows j 0) (n - 1 - i) t
turned_tensor n k xs ys rows X Y i j t I J T =
    ap (λ (m : ℕ). sum_to m new) (length-map xs (reversed n))
    ∙ sum_same (length xs) new (λ l. bit (get_or xs l 0) (n - 1 - i) && (bit (get_or ys l 0) t && bit (get_or rows j 0) l)) each
  where
    new : ℕ → Bool
    new l = bit (get_or (map (reversed n) xs) l 0) i && (bit (get_or (columns rows k) l 0) j && bit (get_or (columns ys n) t 0) l)

    each : (l : ℕ) → l < length xs → new l ≡ bit (get_or xs l 0) (n - 1 - i) && (bit (get_or ys l 0) t && bit (get_or rows j 0) l)
    each l h =
        ap₂ ◌&&◌ (ap (λ (x : ℕ). bit x i) (firsts_at n xs l h) ∙ reversed_bit n (get_or xs l 0) i I)
        (ap₂ ◌&&◌ (columns_at rows k l j (omega arith) J) (columns_at ys n t l T (omega arith)))
        ∙ turn_last (bit (get_or xs l 0) (n - 1 - i)) (bit (get_or rows j 0) l) (bit (get_or ys l 0) t)
