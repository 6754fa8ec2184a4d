-- What forms, targets and generators mean, to be read from top to bottom. The definitions are in Textbook, Target and Generators; the proofs in laws/.
--   target_value    the form of output t, at any input, is output t of the map: every kind but list, every size that fits
--   target_below    it has n × m bits
--   value_xor, value_zero   the value of a sum of forms is the sum of their values; that of 0 is 0
--   value_product   the value of a product form is the product of the sum of a's and the sum of b's
--   value_equal     forms that agree at every input are equal
--   value_differs   forms that are not equal differ at some input, which is found
--   product_listed, generator_value, generator_nonzero, generators_differ   the menu is every product, each by its number, none 0 and none twice
-- Assumes nothing.
use Rattle.std.specs.Prelude.{◌≡◌, ◌≢◌, Bool, false, ◌&&◌, ℕ, ◌*◌, ◌^◌, ◌<◌, ◌≤◌, get_or, Some}
use Rattle.std.specs.Int.Bits.{bit_xor}
use Rattle.linear.specs.Bit.{bit, xor_b}
use Rattle.kinds.specs.Kinds.{is_list}
use Rattle.kinds.specs.declared.Shape.{Shape}
use Rattle.kinds.specs.Sizes.{sizes}
use Rattle.forms.specs.products.Product.{product_form}
use Rattle.maps.specs.Textbook.{sum_to, output}
use Rattle.maps.specs.Target.{value, target_form}
use Rattle.maps.specs.Generators.{generator_count, first_mask, second_mask, numbered, generator_form, generator_forms, Masks}
use Rattle.maps.specs.laws.Value as values
use Rattle.maps.specs.laws.Target as targets
use Rattle.maps.specs.laws.Generators as generators

-- Document 01's table of targets, and document 02's mid: of a map with n and m variables and u outputs, the form of output t computes output t.
pub target_value : (shape : Shape) (n m u : ℕ) → sizes shape ≡ Some (n, m, u) → (t : ℕ) → t < u → is_list shape.kind ≡ false → (a b : ℕ → Bool)
    → value n m (target_form shape n m t) a b ≡ output shape a b t
target_value = targets.target_value

pub target_below : (shape : Shape) (n m t : ℕ) → target_form shape n m t < 2 ^ (n * m)
target_below = targets.target_below

module _ (n m : ℕ) (a b : ℕ → Bool) where
  pub value_xor : (f g : ℕ) → value n m (bit_xor f g) a b ≡ xor_b (value n m f a b) (value n m g a b)
  value_xor = values.value_xor n m a b

  pub value_zero : value n m 0 a b ≡ false
  value_zero = values.value_zero n m a b

  -- "every product of a nonzero sum of a's and a nonzero sum of b's", "With those sums as bit masks A and B"
  pub value_product : (A B : ℕ) → n * m ≤ 64 → value n m (product_form n m A B) a b ≡ sum_to n (λ i. bit A i && a i) && sum_to m (λ j. bit B j && b j)
  value_product = values.value_product n m a b

-- An input is two numbers, whose bits are the a's and the b's.
module _ (n m f g : ℕ) (F : f < 2 ^ (n * m)) (G : g < 2 ^ (n * m)) where
  pub value_equal : ((a b : ℕ) → a < 2 ^ n → b < 2 ^ m → value n m f (bit a) (bit b) ≡ value n m g (bit a) (bit b)) → f ≡ g
  value_equal = values.value_equal n m f g F G

  pub value_differs : f ≢ g → (a : ℕ) × (b : ℕ) × (a < 2 ^ n) × (b < 2 ^ m) × (value n m f (bit a) (bit b) ≢ value n m g (bit a) (bit b))
  value_differs = values.value_differs n m f g F G

-- "Except for list, the menu is every product of a nonzero sum of a's and a nonzero sum of b's. With those sums as bit masks A and B, its
-- number is (A − 1) × (2^m − 1) + (B − 1)." The two-way numbering itself is in Generators.
pub product_listed : (n m A B : ℕ) → Masks n m A B → get_or (generator_forms n m) (numbered m A B) 0 ≡ product_form n m A B
product_listed = generators.product_listed

module _ (n m : ℕ) (h : n * m ≤ 64) where
  pub generator_value : (j : ℕ) (a b : ℕ → Bool)
      → value n m (generator_form n m j) a b ≡ sum_to n (λ i. bit (first_mask m j) i && a i) && sum_to m (λ i. bit (second_mask m j) i && b i)
  generator_value = generators.generator_value n m h

  pub generator_nonzero : (j : ℕ) → j < generator_count n m → generator_form n m j ≢ 0
  generator_nonzero = generators.generator_nonzero n m h

  pub generators_differ : (i j : ℕ) → i < generator_count n m → j < generator_count n m → generator_form n m i ≡ generator_form n m j → i ≡ j
  generators_differ = generators.generators_differ n m h
