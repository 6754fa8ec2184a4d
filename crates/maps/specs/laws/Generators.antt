-- The menu: its forms are exactly the products, none of them 0 and none twice.
-- Assumes nothing.
use Rattle.std.specs.Prelude.{◌≡◌, refl, ◌≢◌, Bool, true, false, ◌&&◌, ℕ, ◌+◌, ◌*◌, ◌^◌, ◌<◌, ◌≤◌, get_or}
use Rattle.std.proofs.Math.Path.{sym, ap₂}
use Rattle.std.proofs.Common.{ap, ◌∙◌, true≢false, arith}
use Rattle.std.proofs.Math.Bool.{and-eq-true_iff}
use Rattle.std.proofs.Math.Decide.{dec_lt}
use Rattle.linear.specs.Bit.{bit, top}
use Rattle.linear.specs.laws.Bit.{bit_zero, bit_ext, bit_below, top_one}
use Rattle.linear.proofs.laws.Word.{top_below}
use Rattle.forms.specs.products.Product.{product_form}
use Rattle.forms.specs.products.laws.Product.{product_coordinate}
use Rattle.maps.specs.Textbook.{sum_to}
use Rattle.maps.specs.Target.{value}
use Rattle.maps.specs.Generators.{generator_count, first_mask, second_mask, numbered, generator_form, generator_forms, Masks}
use Rattle.maps.specs.Generators.{number_of_masks, masks_of_number, masks_in_range, number_in_range, forms_at}
use Rattle.maps.specs.laws.Value.{value_product}

-- the form of the masks A and B stands at their number
pub product_listed : (n m A B : ℕ) → Masks n m A B → get_or (generator_forms n m) (numbered m A B) 0 ≡ product_form n m A B
unfolding generator_form
product_listed n m A B M =
    let e = masks_of_number m A B M.some_left M.some_right M.right in
    forms_at n m (numbered m A B) (number_in_range n m A B M) ∙ ap₂ (product_form n m) e.0 e.1

-- ---- a mask that is not 0 has a bit
record Set (w x : ℕ) : Type 0 where
  pub at : ℕ
  pub below : at < w
  pub is : bit x at ≡ true

set_bit : (w x : ℕ) → 1 ≤ x → x < 2 ^ w → Set w x
set_bit w x h k = let n : x ≢ 0 = (λ e. omega arith) in record { at = top x; below = top_below w x n k; is = not_false (bit x (top x)) (top_one x n) }
  where
    not_false : (b : Bool) → b ≢ false → b ≡ true
    not_false true h = refl
    not_false false h = absurd (h refl)

-- masks of w bits with the same bits below w are the same
same_mask : (w x y : ℕ) → x < 2 ^ w → y < 2 ^ w → ((i : ℕ) → i < w → bit x i ≡ bit y i) → x ≡ y
same_mask w x y h k e = bit_ext x y (λ i. go i (dec_lt i w))
  where
    go : (i : ℕ) → Dec (i < w) → bit x i ≡ bit y i
    go i (yes l) = e i l
    go i (no l) = bit_below x w i h (omega arith) ∙ sym (bit_below y w i k (omega arith))

module _ (n m : ℕ) (h : n * m ≤ 64) where
  module _ (A B : ℕ) (M : Masks n m A B) where
    left_bit : Set n A
    left_bit = set_bit n A M.some_left M.left

    right_bit : Set m B
    right_bit = set_bit m B M.some_right M.right

    pub product_nonzero : product_form n m A B ≢ 0
    product_nonzero e =
        let i : ℕ = left_bit.at in
        let j : ℕ = right_bit.at in
        true≢false
        (sym (product_coordinate n m A B i j h left_bit.below right_bit.below ∙ ap₂ ◌&&◌ left_bit.is right_bit.is)
        ∙ ap (λ (x : ℕ). bit x (i * m + j)) e ∙ bit_zero (i * m + j))

    module _ (C D : ℕ) (N : Masks n m C D) (e : product_form n m A B ≡ product_form n m C D) where
      coordinates : (i j : ℕ) → i < n → j < m → bit A i && bit B j ≡ bit C i && bit D j
      coordinates i j k l =
          sym (product_coordinate n m A B i j h k l) ∙ ap (λ (x : ℕ). bit x (i * m + j)) e ∙ product_coordinate n m C D i j h k l

      -- where A and B have a bit, C and D have it too
      both_set : (bit C left_bit.at ≡ true) × (bit D right_bit.at ≡ true)
      both_set =
          (and-eq-true_iff (bit C left_bit.at) (bit D right_bit.at)).0
          (sym (coordinates left_bit.at right_bit.at left_bit.below right_bit.below) ∙ ap₂ ◌&&◌ left_bit.is right_bit.is)

      last : (b : Bool) → b && true ≡ b
      last true = refl
      last false = refl

      pub product_left : A ≡ C
      product_left =
          same_mask n A C M.left N.left λ i l.
          sym (ap (λ (b : Bool). bit A i && b) right_bit.is ∙ last (bit A i)) ∙ coordinates i right_bit.at l right_bit.below
          ∙ ap (λ (b : Bool). bit C i && b) both_set.1 ∙ last (bit C i)

      pub product_right : B ≡ D
      product_right =
          same_mask m B D M.right N.right λ j l.
          sym (ap (λ (b : Bool). b && bit B j) left_bit.is) ∙ coordinates left_bit.at j left_bit.below l
          ∙ ap (λ (b : Bool). b && bit D j) both_set.0

  pub generator_nonzero : (j : ℕ) → j < generator_count n m → generator_form n m j ≢ 0
  unfolding generator_form
  generator_nonzero j k = product_nonzero (first_mask m j) (second_mask m j) (masks_in_range n m j k)

  pub generators_differ : (i j : ℕ) → i < generator_count n m → j < generator_count n m → generator_form n m i ≡ generator_form n m j → i ≡ j
  unfolding generator_form
  generators_differ i j k l e =
      let M = masks_in_range n m i k in
      let N = masks_in_range n m j l in
      sym (number_of_masks m i)
      ∙ ap₂ (numbered m)
      (product_left (first_mask m i) (second_mask m i) M (first_mask m j) (second_mask m j) N e)
      (product_right (first_mask m i) (second_mask m i) M (first_mask m j) (second_mask m j) N e)
      ∙ number_of_masks m j

  pub generator_value : (j : ℕ) (a b : ℕ → Bool) → value n m (generator_form n m j) a b ≡ sum_to n (λ i. bit (first_mask m j) i && a i) && sum_to m (λ i. bit (second_mask m j) i && b i)
  unfolding generator_form
  generator_value j a b = value_product n m a b (first_mask m j) (second_mask m j) h
