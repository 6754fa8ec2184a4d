-- The value of a form: of a sum, of zero, of a product, at inputs with a single 1; forms with equal coordinates, or equal values, are equal.
-- Assumes nothing.
use Rattle.std.specs.Prelude.{◌≡◌, ◌≢◌, true, false, ◌&&◌}
use Rattle.std.proofs.Math.Path.{refl, sym, ap}
use Rattle.std.proofs.Common.{ap₂, ◌∙◌, true≢false, div-add-mod', div-lt_iff_lt-mul, mod-lt, mul-zero, one-mul, arith}
use Rattle.std.proofs.Math.Bool.{Bool}
use Rattle.std.proofs.lemmas.Bool.{false≢true}
use Prim.Native.Nat.{ℕ, zero, suc, ◌+◌, ◌*◌, ◌/◌, ◌%◌, ◌^◌, ◌<◌, ◌≤◌}
use Rattle.std.proofs.Math.Decide.{dec_lt}
use Rattle.std.specs.Int.Bits.{bit_xor}
use Rattle.std.proofs.Math.Pow.{pow-lt}
use Rattle.linear.specs.Bit.{bit, xor_b}
use Rattle.linear.specs.laws.Bit.{bit_of_xor, bit_zero, bit_ext, bit_below}
use Rattle.linear.proofs.laws.Shift.{bit_shift, bit_shift_low}
use Rattle.forms.specs.products.Product.{product_form}
use Rattle.forms.specs.products.laws.Product.{product_coordinate}
use Rattle.maps.specs.Textbook.{sum_to}
use Rattle.maps.specs.Target.{value}
use Rattle.maps.specs.laws.Sum.{xor_and, and_swap, sum_same, sum_none, sum_xor, sum_times, sum_times_right, sum_one}

-- the sum of those a_i b_j where c i j is 1
abbrev pub sum_over : (n m : ℕ) → (ℕ → ℕ → Bool) → (a b : ℕ → Bool) → Bool
sum_over n m c a b = sum_to n (λ i. sum_to m (λ j. c i j && (a i && b j)))

-- the value of a form is told by its coordinates
pub value_same : (n m f : ℕ) (c : ℕ → ℕ → Bool) (a b : ℕ → Bool) → ((i j : ℕ) → i < n → j < m → bit f (i * m + j) ≡ c i j)
    → value n m f a b ≡ sum_over n m c a b
unfolding value
value_same n m f c a b h =
    sum_same n (λ i. sum_to m (λ j. bit f (i * m + j) && (a i && b j))) (λ i. sum_to m (λ j. c i j && (a i && b j)))
    (λ i k. sum_same m (λ j. bit f (i * m + j) && (a i && b j)) (λ j. c i j && (a i && b j)) (λ j l. ap (λ (x : Bool). x && (a i && b j)) (h i j k l)))

module _ (n m : ℕ) (a b : ℕ → Bool) where
  pub value_xor : (f g : ℕ) → value n m (bit_xor f g) a b ≡ xor_b (value n m f a b) (value n m g a b)
  unfolding value
  value_xor f g =
      value_same n m (bit_xor f g) (λ i j. xor_b (bit f (i * m + j)) (bit g (i * m + j))) a b (λ i j k l. bit_of_xor f g (i * m + j))
      ∙ sum_same n (λ i. sum_to m (λ j. xor_b (bit f (i * m + j)) (bit g (i * m + j)) && (a i && b j))) (λ i. xor_b (part f i) (part g i))
      (λ i k. sum_same m (λ j. xor_b (bit f (i * m + j)) (bit g (i * m + j)) && (a i && b j)) (λ j. xor_b (bit f (i * m + j) && (a i && b j)) (bit g (i * m + j) && (a i && b j)))
      (λ j l. sym (xor_and (bit f (i * m + j)) (bit g (i * m + j)) (a i && b j)))
      ∙ sum_xor m (λ j. bit f (i * m + j) && (a i && b j)) (λ j. bit g (i * m + j) && (a i && b j)))
      ∙ sum_xor n (part f) (part g)
    where
      part : ℕ → ℕ → Bool
      part f i = sum_to m (λ j. bit f (i * m + j) && (a i && b j))

  pub value_zero : value n m 0 a b ≡ false
  unfolding value
  value_zero =
      sum_none n (λ i. sum_to m (λ j. bit 0 (i * m + j) && (a i && b j)))
      (λ i k. sum_none m (λ j. bit 0 (i * m + j) && (a i && b j)) (λ j l. ap (λ (x : Bool). x && (a i && b j)) (bit_zero (i * m + j))))

  pub value_product : (A B : ℕ) → n * m ≤ 64 → value n m (product_form n m A B) a b ≡ sum_to n (λ i. bit A i && a i) && sum_to m (λ j. bit B j && b j)
  value_product A B h =
      value_same n m (product_form n m A B) (λ i j. bit A i && bit B j) a b (λ i j k l. product_coordinate n m A B i j h k l)
      ∙ sum_same n (λ i. sum_to m (λ j. (bit A i && bit B j) && (a i && b j))) (λ i. (bit A i && a i) && sum_to m (λ j. bit B j && b j))
      (λ i k. sum_same m (λ j. (bit A i && bit B j) && (a i && b j)) (λ j. (bit A i && a i) && (bit B j && b j)) (λ j l. and_swap (bit A i) (bit B j) (a i) (b j))
      ∙ sum_times m (bit A i && a i) (λ j. bit B j && b j))
      ∙ sum_times_right n (sum_to m (λ j. bit B j && b j)) (λ i. bit A i && a i)

-- ---- inputs with a single 1
pub power_at : (i : ℕ) → bit (2 ^ i) i ≡ true
power_at i =
    let e : i ≡ i + 0 = omega arith in
    ap₂ bit (sym (one-mul (2 ^ i))) e ∙ bit_shift 1 i 0 ∙ one
  where
    one : bit 1 0 ≡ true
    one = unfold bit in refl

pub power_else : (i k : ℕ) → k ≢ i → bit (2 ^ i) k ≡ false
power_else i k n = go (dec_lt k i)
  where
    go : Dec (k < i) → bit (2 ^ i) k ≡ false
    go (yes l) = ap (λ (x : ℕ). bit x k) (sym (one-mul (2 ^ i))) ∙ bit_shift_low 1 i k l
    go (no l) = bit_below (2 ^ i) (suc i) k (pow-lt (let h : i < suc i = omega arith in h)) (omega arith)

off_left : (x y : Bool) → y ≡ false → x && y ≡ false
off_left true y e = e
off_left false y e = refl

on_right : (x y : Bool) → y ≡ true → x && y ≡ x
on_right true y e = e
on_right false y e = refl

-- the coordinate of a_i b_j is the value where only a_i and b_j are 1
pub value_single : (n m f i j : ℕ) → i < n → j < m → value n m f (bit (2 ^ i)) (bit (2 ^ j)) ≡ bit f (i * m + j)
unfolding value
value_single n m f i j k l =
    sum_one n (λ x. sum_to m (λ y. term x y)) i k
    (λ x h d. sum_none m (λ y. term x y) (λ y g. off_left (bit f (x * m + y)) (bit (2 ^ i) x && bit (2 ^ j) y) (ap (λ (z : Bool). z && bit (2 ^ j) y) (power_else i x d))))
    ∙ sum_one m (λ y. term i y) j l (λ y h d. off_left (bit f (i * m + y)) (bit (2 ^ i) i && bit (2 ^ j) y) (off_left (bit (2 ^ i) i) (bit (2 ^ j) y) (power_else j y d)))
    ∙ on_right (bit f (i * m + j)) (bit (2 ^ i) i && bit (2 ^ j) j) (ap₂ ◌&&◌ (power_at i) (power_at j))
  where
    term : ℕ → ℕ → Bool
    term x y = bit f (x * m + y) && (bit (2 ^ i) x && bit (2 ^ j) y)

-- ---- every coordinate is the coefficient of some a_i b_j
pub record Place (n m s : ℕ) : Type 0 where
  pub row : s / m < n
  pub column : s % m < m
  pub same : s / m * m + s % m ≡ s

pub place : (n m s : ℕ) → s < n * m → Place n m s
place n m s h = record { row = (div-lt_iff_lt-mul (some m h)).1 h; column = mod-lt s (some m h); same = div-add-mod' s m }
  where
    some : (m : ℕ) → s < n * m → 0 < m
    some zero h = absurd (omega (arith, h, mul-zero n))
    some (suc m) h = omega arith

module _ (n m f g : ℕ) (F : f < 2 ^ (n * m)) (G : g < 2 ^ (n * m)) where
  all_bits : ((s : ℕ) → s < n * m → bit f s ≡ bit g s) → f ≡ g
  all_bits h = bit_ext f g (λ s. go s (dec_lt s (n * m)))
    where
      go : (s : ℕ) → Dec (s < n * m) → bit f s ≡ bit g s
      go s (yes l) = h s l
      go s (no l) = bit_below f (n * m) s F (omega arith) ∙ sym (bit_below g (n * m) s G (omega arith))

  pub forms_same : ((i j : ℕ) → i < n → j < m → bit f (i * m + j) ≡ bit g (i * m + j)) → f ≡ g
  forms_same h = all_bits λ s l. let P = place n m s l in ap (bit f) (sym P.same) ∙ h (s / m) (s % m) P.row P.column ∙ ap (bit g) P.same

  pub value_equal : ((a b : ℕ) → a < 2 ^ n → b < 2 ^ m → value n m f (bit a) (bit b) ≡ value n m g (bit a) (bit b)) → f ≡ g
  value_equal h =
      forms_same λ i j k l. sym (value_single n m f i j k l) ∙ h (2 ^ i) (2 ^ j) (pow-lt k) (pow-lt l) ∙ value_single n m g i j k l

  -- the first coordinate below w that differs, if the forms are not equal
  differing : (w : ℕ) → ((s : ℕ) → w ≤ s → s < n * m → bit f s ≡ bit g s) → f ≢ g → (s : ℕ) × (bit f s ≢ bit g s)
  differing zero h d = absurd (d (all_bits (λ s l. h s (omega arith) l)))
  differing (suc w) h d = go (bit f w) (bit g w) refl refl (differing w)
    where
      again : bit f w ≡ bit g w → (s : ℕ) → w ≤ s → s < n * m → bit f s ≡ bit g s
      again e s l k = here (dec_lt w s)
        where
          here : Dec (w < s) → bit f s ≡ bit g s
          here (yes q) = h s (omega arith) k
          here (no q) = let z : s ≡ w = omega arith in ap (bit f) z ∙ e ∙ ap (bit g) (sym z)

      go : (x y : Bool) → bit f w ≡ x → bit g w ≡ y → (((s : ℕ) → w ≤ s → s < n * m → bit f s ≡ bit g s) → f ≢ g → (s : ℕ) × (bit f s ≢ bit g s))
          → (s : ℕ) × (bit f s ≢ bit g s)
      go true true p q ih = ih (again (p ∙ sym q)) d
      go false false p q ih = ih (again (p ∙ sym q)) d
      go true false p q ih = (w, λ e. true≢false (sym p ∙ e ∙ q))
      go false true p q ih = (w, λ e. false≢true (sym p ∙ e ∙ q))

  pub value_differs : f ≢ g → (a : ℕ) × (b : ℕ) × (a < 2 ^ n) × (b < 2 ^ m) × (value n m f (bit a) (bit b) ≢ value n m g (bit a) (bit b))
  value_differs d = go (differing (n * m) (λ s l k. absurd (omega arith)) d)
    where
      go : (s : ℕ) × (bit f s ≢ bit g s) → (a : ℕ) × (b : ℕ) × (a < 2 ^ n) × (b < 2 ^ m) × (value n m f (bit a) (bit b) ≢ value n m g (bit a) (bit b))
      go (s, e) = below (dec_lt s (n * m))
        where
          below : Dec (s < n * m) → (a : ℕ) × (b : ℕ) × (a < 2 ^ n) × (b < 2 ^ m) × (value n m f (bit a) (bit b) ≢ value n m g (bit a) (bit b))
          below (yes l) =
              let P = place n m s l in (
                2 ^ (s / m),
                2 ^ (s % m),
                pow-lt P.row,
                pow-lt P.column,
                λ q. e (ap (bit f) (sym P.same) ∙ sym (value_single n m f (s / m) (s % m) P.row P.column) ∙ q
                    ∙ value_single n m g (s / m) (s % m) P.row P.column ∙ ap (bit g) P.same),
              )
          below (no l) = absurd (e (bit_below f (n * m) s F (omega arith) ∙ sym (bit_below g (n * m) s G (omega arith))))
