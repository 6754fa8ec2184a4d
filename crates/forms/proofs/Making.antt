-- The loop of `product`: a row of b's is added for each coordinate of a.
-- Making == the rows below i are made, and i * m is the place of the next
-- Small == the sizes at a turn: m is not 0, i is below n and 64, its place below 64, and the next place fits the form and a word
-- making_start, making-end: at first nothing is made, and at the end the whole form.
-- making-small: the sizes follow from the test of the loop.
-- making_set, making-unset: a turn adds the row where a is 1 at i, and else nothing; either way the rows below i + 1 are made.
-- Assumes nothing.
use mathlib.Core.Path.{◌≡◌, refl, sym, ap, ap₂, ◌∙◌, subst}
use mathlib.Core.Bool.{Bool, true, false, ◌&&◌}
use Prim.Native.Nat.{ℕ, zero, suc, ◌+◌, ◌-◌, ◌*◌, ◌/◌, ◌%◌, ◌^◌, ◌<◌, ◌≤◌, min}
use native.Mathlib.Decide.{dec_lt}
use native.Mathlib.Nat.{le-mul_of_pos_right, lt_of_lt_of_le, lt_of_mul-lt-mul_right, min-le_left, mod-lt, mul-le-mul_right, mul-zero, suc-mul, zero-mul}
use native.Mathlib.Numerals.{add-one}
use native.Mathlib.Omega.{arith}
use lib.Arith.{digits_div, digits_mod}
use lib.Bits.{bit_and, bit_xor, and_mask, xor_zero_r}
use lib.Pow.{pow_mono, pow_pos}
use Rattle.linear.specs.Bit.{bit, xor_b}
use Rattle.linear.specs.Word.{word, two, scale_w}
use Rattle.linear.specs.laws.Bit.{bit_ext, bit_of_xor}
use Rattle.linear.specs.laws.Bit.{bit_below}
use Rattle.linear.proofs.laws.Shift.{bit_mod, bit_shift, bit_shift_low, bit_set, bit_unset}
use Rattle.forms.specs.products.Product.{form_of, term}
use Rattle.forms.specs.products.laws.Product.{bit_form_of, form_of_above}

pub record Making (m a b end form i at : ℕ) : Type 0 where
  pub place : at ≡ i * m
  pub made : form ≡ form_of (min at end) (term m a b)

pub making_start : (m a b end : ℕ) → Making m a b end 0 0 0
unfolding form_of
making_start m a b end = record { place = sym (zero-mul m); made = ap (λ (w : ℕ). form_of w (term m a b)) (let e : 0 ≡ min 0 end = omega arith in e) }

pub making_end : (m a b end form i at : ℕ) → Making m a b end form i at → end ≤ at → form ≡ form_of end (term m a b)
making_end m a b end form i at M h = M.made ∙ ap (λ (w : ℕ). form_of w (term m a b)) (let e : min at end ≡ end = omega arith in e)

-- ---- the sizes at a turn
pub record Small (n m i at : ℕ) : Type 0 where
  pub some : 0 < m
  pub early : i < n
  pub low : i < 64
  pub shift : at < 64
  pub next : at + m ≤ n * m
  pub fits : at + m < 2 ^ 64

pub making_small : (n m end i at : ℕ) → end ≡ min (n * m) 64 → at ≡ i * m → at < end → m < 2 ^ 64 → Small n m i at
making_small n m end i at e p h f =
    record { some = some; early = early; low = omega (arith, le-mul_of_pos_right i some); shift = omega arith; next = next; fits = fits i refl }
  where
    some : 0 < m
    some = go (dec_lt 0 m)
      where
        go : Dec (0 < m) → 0 < m
        go (yes l) = l
        go (no k) = let z : m ≡ 0 = omega arith in absurd (omega (arith, e, h, ap (λ (x : ℕ). n * x) z ∙ mul-zero n))

    early : i < n
    early = lt_of_mul-lt-mul_right m (let q : i * m < n * m = omega arith in q)

    next : at + m ≤ n * m
    next = omega (arith, p, mul-le-mul_right m early, suc-mul i m)

    fits : (j : ℕ) → i ≡ j → at + m < 2 ^ 64
    fits zero z = omega (arith, p ∙ ap (λ (x : ℕ). x * m) z ∙ zero-mul m)
    fits (suc j) z = omega (arith, h, e, p ∙ ap (λ (x : ℕ). x * m) z ∙ suc-mul j m)

-- ---- a turn
and_false : (s : Bool) → s && false ≡ false
and_false true = refl
and_false false = refl

module _ (n m a b end form i at row : ℕ) (e : end ≡ min (n * m) 64) (R : row ≡ bit_and b (2 ^ min m 64 - 1)) (M : Making m a b end form i at) (h : at < end) (S : Small n m i at) where
  abbrev f : ℕ → Bool
  f = term m a b

  -- what a turn adds, where a is 1 at i
  abbrev shifted : ℕ
  shifted = row * 2 ^ at % 2 ^ 64

  row_mod : row ≡ b % 2 ^ min m 64
  row_mod = R ∙ and_mask b (min m 64)

  row_below : row < 2 ^ m
  row_below = lt_of_lt_of_le (subst (λ (x : ℕ). x < 2 ^ min m 64) (sym row_mod) (mod-lt b (pow_pos (min m 64)))) (pow_mono (min-le_left m 64))

  shifted_low : (t : ℕ) → t < at → bit shifted t ≡ false
  shifted_low t l = bit_mod (row * 2 ^ at) 64 t (omega (arith, l, S.shift)) ∙ bit_shift_low row at t l

  shifted_at : (k : ℕ) → at + k < 64 → bit shifted (at + k) ≡ bit row k
  shifted_at k l = bit_mod (row * 2 ^ at) 64 (at + k) l ∙ bit_shift row at k

  shifted_out : (t : ℕ) → min (at + m) end ≤ t → bit shifted t ≡ false
  shifted_out t l = go (dec_lt t 64)
    where
      go : Dec (t < 64) → bit shifted t ≡ false
      go (yes k) =
          let q : t ≡ at + (t - at) = omega (arith, l, e, S.next) in
          let p : m ≤ t - at = omega (arith, l, e, S.next) in
          ap (bit shifted) q ∙ shifted_at (t - at) (omega arith) ∙ bit_below row m (t - at) row_below p
      go (no k) = bit_below shifted 64 t (mod-lt (row * 2 ^ at) (pow_pos 64)) (omega arith)

  -- the coordinates of row i
  in_row : (s : Bool) → bit a i ≡ s → (k : ℕ) → k < m → at + k < 64 → s && bit shifted (at + k) ≡ f (at + k)
  in_row s q k l g =
      ap₂ ◌&&◌ (sym q) (shifted_at k g ∙ ap (λ (x : ℕ). bit x k) row_mod ∙ bit_mod b (min m 64) k (omega arith))
      ∙ ap₂ (λ (x y : ℕ). bit a x && bit b y) (sym (digits_div i l)) (sym (digits_mod i l))
      ∙ ap (λ (x : ℕ). f (x + k)) (sym M.place)

  made_below : (t : ℕ) → t < at → bit form t ≡ f t
  made_below t l = ap (λ (x : ℕ). bit x t) M.made ∙ bit_form_of (min at end) f t (omega arith)

  made_above : (t : ℕ) → at ≤ t → bit form t ≡ false
  made_above t l = ap (λ (x : ℕ). bit x t) M.made ∙ form_of_above (min at end) f t (omega arith)

  module _ (s : Bool) (q : bit a i ≡ s) where
    sum_bit : (t : ℕ) → bit (bit_xor form (scale_w s shifted)) t ≡ xor_b (bit form t) (s && bit shifted t)
    sum_bit t = bit_of_xor form (scale_w s shifted) t ∙ ap (xor_b (bit form t)) (word.coord_scale s shifted t)

    same_bit : (t : ℕ) → Dec (t < at) → Dec (t < min (at + m) end) → bit (bit_xor form (scale_w s shifted)) t ≡ bit (form_of (min (at + m) end) f) t
    same_bit t (yes l) w =
        sum_bit t ∙ ap₂ xor_b (made_below t l) (ap (λ (x : Bool). s && x) (shifted_low t l) ∙ and_false s) ∙ two.plus_zero (f t)
        ∙ sym (bit_form_of (min (at + m) end) f t (omega arith))
    same_bit t (no l) (yes w) =
        let p : t ≡ at + (t - at) = omega arith in
        sum_bit t ∙ ap (λ (x : Bool). xor_b x (s && bit shifted t)) (made_above t (omega arith))
        ∙ ap (λ (x : ℕ). s && bit shifted x) p ∙ in_row s q (t - at) (omega arith) (omega (arith, w, e)) ∙ ap f (sym p)
        ∙ sym (bit_form_of (min (at + m) end) f t w)
    same_bit t (no l) (no w) =
        sum_bit t ∙ ap₂ xor_b (made_above t (omega arith)) (ap (λ (x : Bool). s && x) (shifted_out t (omega arith)) ∙ and_false s)
        ∙ sym (form_of_above (min (at + m) end) f t (omega arith))

    turn : bit_xor form (scale_w s shifted) ≡ form_of (min (at + m) end) f
    turn = bit_ext (bit_xor form (scale_w s shifted)) (form_of (min (at + m) end) f) (λ t. same_bit t (dec_lt t at) (dec_lt t (min (at + m) end)))

  next_place : at + m ≡ (i + 1) * m
  next_place = omega (arith, M.place, ap (λ (k : ℕ). k * m) (add-one i) ∙ suc-mul i m)

  pub making_set : (y : ℕ) → bit_and (a / 2 ^ i) 1 ≡ 1 → y ≡ bit_xor form (row * 2 ^ at % 2 ^ 64) → Making m a b end y (i + 1) (at + m)
  making_set y t q = record { place = next_place; made = q ∙ turn true (bit_set a i t) }

  pub making_unset : (y : ℕ) → (bit_and (a / 2 ^ i) 1 ≡ 1 → ⊥) → y ≡ form → Making m a b end y (i + 1) (at + m)
  making_unset y t q = record { place = next_place; made = q ∙ sym (xor_zero_r form) ∙ turn false (bit_unset a i t) }
