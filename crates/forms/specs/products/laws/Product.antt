-- form_of w f == the form whose coordinate t is f t below w, and 0 from w on
-- term m a b t == the coefficient of the product of variables number t: of a_i b_j where t is i * m + j
-- product_form n m a b == the product of the sum of the a's in the mask a and the sum of the b's in the mask b, in n and m variables; of a
-- form wider than 64 the lowest 64 coordinates
-- bit_form_of, form_of_above, formOf-below: the coordinates of form_of w f, and that it is below 2 ^ w.
-- form_set, form-unset: a turn of a loop that makes it, coordinate s set or not.
-- product-coordinate: where the form fits a word, coordinate i * m + j of the product is the product of a's coordinate i and b's j.
-- product-below: a product in n and m variables is below 2 ^ (n * m).
-- Assumes nothing.
use Rattle.std.specs.Prelude.{◌≡◌, refl, Bool, true, false, ◌&&◌, ℕ, zero, suc, ◌+◌, ◌*◌, ◌/◌, ◌%◌, ◌^◌, ◌<◌, ◌≤◌, min}
use Rattle.std.proofs.Common.{sym, ap₂, ◌∙◌, subst, le_refl, lt_of_lt_of_le, one-mul, pow-suc, add-one, arith, pow_mono}
use Rattle.std.proofs.Math.Path.{ap}
use Rattle.std.proofs.Math.Bool.{cond}
use Rattle.std.proofs.Math.Decide.{dec_lt}
use Rattle.std.proofs.Math.Nat.{min-eq_left, min-le_left}
use Rattle.std.proofs.Math.Arith.{digits_lt, digits_div, digits_mod}
use Rattle.std.specs.Int.Bits.{bit_xor, xor_shifted}
use Rattle.std.proofs.Math.Pow.{high, low}
use Rattle.linear.specs.Bit.{bit, bit_of}
use Rattle.linear.specs.laws.Bit.{bit_below}
use Rattle.linear.proofs.laws.Shift.{bit_mod, one_shift}
use Rattle.forms.specs.products.Product.{form_of, term, product_form}

-- ---- the coordinates of form_of
pub form_of_below : (w : ℕ) (f : ℕ → Bool) → form_of w f < 2 ^ w
unfolding form_of
form_of_below zero f = omega arith
form_of_below (suc w) f = go (f w) (form_of_below w f)
  where
    go : (s : Bool) → form_of w f < 2 ^ w → cond s (2 ^ w + form_of w f) (form_of w f) < 2 ^ suc w
    go true h = omega (arith, h, pow-suc 2 w)
    go false h = omega (arith, h, pow-suc 2 w)

pub form_of_above : (w : ℕ) (f : ℕ → Bool) (t : ℕ) → w ≤ t → bit (form_of w f) t ≡ false
form_of_above w f t l = bit_below (form_of w f) w t (form_of_below w f) l

module _ (w r : ℕ) (h : r < 2 ^ w) where
  one_more : 2 ^ w + r ≡ 1 * 2 ^ w + r
  one_more = omega arith

  top_set : bit (2 ^ w + r) w ≡ true
  unfolding bit
  top_set = ap (λ (x : ℕ). bit_of (x % 2)) (ap (λ (n : ℕ). n / 2 ^ w) one_more ∙ high 1 w h)

  under_top : (t : ℕ) → t < w → bit (2 ^ w + r) t ≡ bit r t
  under_top t l =
      sym (bit_mod (2 ^ w + r) w t l) ∙ ap (λ (n : ℕ). bit n t) (ap (λ (n : ℕ). n % 2 ^ w) one_more ∙ low 1 w h)

pub bit_form_of : (w : ℕ) (f : ℕ → Bool) (t : ℕ) → t < w → bit (form_of w f) t ≡ f t
unfolding form_of
bit_form_of zero f t l = absurd (omega arith)
bit_form_of (suc w) f t l = go (dec_lt t w) (f w) refl (bit_form_of w f t)
  where
    h : form_of w f < 2 ^ w
    h = form_of_below w f

    at_top : (s : Bool) → bit (cond s (2 ^ w + form_of w f) (form_of w f)) w ≡ s
    at_top true = top_set w (form_of w f) h
    at_top false = form_of_above w f w (le_refl w)

    go : Dec (t < w) → (s : Bool) → f w ≡ s → (t < w → bit (form_of w f) t ≡ f t) → bit (cond s (2 ^ w + form_of w f) (form_of w f)) t ≡ f t
    go (yes k) true e ih = under_top w (form_of w f) h t k ∙ ih k
    go (yes k) false e ih = ih k
    go (no k) s e ih =
        let q : t ≡ w = omega arith in
        ap (λ (i : ℕ). bit (cond s (2 ^ w + form_of w f) (form_of w f)) i) q ∙ at_top s ∙ sym e ∙ ap f (sym q)

-- ---- a form of one coordinate more
module _ (f : ℕ → Bool) (s form : ℕ) (e : form ≡ form_of s f) where
  more : (b : Bool) → f s ≡ b → form_of (s + 1) f ≡ cond b (2 ^ s + form_of s f) (form_of s f)
  unfolding form_of
  more b q = ap (λ (w : ℕ). form_of w f) (add-one s) ∙ ap (λ (x : Bool). cond x (2 ^ s + form_of s f) (form_of s f)) q

  pub form_set : f s ≡ true → s < 64 → bit_xor (1 * 2 ^ s % 2 ^ 64) form ≡ form_of (s + 1) f
  form_set q l =
      ap₂ bit_xor (one_shift s l ∙ sym (one-mul (2 ^ s))) e ∙ xor_shifted 1 s (form_of s f) (form_of_below s f)
      ∙ ap (λ (x : ℕ). x + form_of s f) (one-mul (2 ^ s)) ∙ sym (more true q)

  pub form_unset : f s ≡ false → form ≡ form_of (s + 1) f
  form_unset q = e ∙ sym (more false q)

-- ---- the product
pub product_coordinate : (n m a b i j : ℕ) → n * m ≤ 64 → i < n → j < m → bit (product_form n m a b) (i * m + j) ≡ bit a i && bit b j
unfolding product_form
product_coordinate n m a b i j h k l =
    let p : i * m + j < n * m = digits_lt k l in
    let q : i * m + j < min (n * m) 64 = subst (λ (x : ℕ). i * m + j < x) (sym (min-eq_left h)) p in
    bit_form_of (min (n * m) 64) (term m a b) (i * m + j) q
    ∙ ap₂ (λ (x y : ℕ). bit a x && bit b y) (digits_div i l) (digits_mod i l)

pub product_below : (n m a b : ℕ) → product_form n m a b < 2 ^ (n * m)
unfolding product_form
product_below n m a b = lt_of_lt_of_le (form_of_below (min (n * m) 64) (term m a b)) (pow_mono (min-le_left (n * m) 64))
