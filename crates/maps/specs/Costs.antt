-- What the generators of a map cost.
--   generator_cost m j   == the cost of the generator number j: the ones of its masks A and B, less 2
--   generator_costs n m  == the costs of all of them, in order
-- Document 02: "Elsewhere the cost is the ones in both factors less 2."
--   cost_of_masks          the cost of the number of A and B is that of A and B
--   costs_length, costs_at there are as many costs as generators, and the cost of generator j stands at j
--   costs_poly             those of 2 and 2 variables: one a and one b cost nothing, both a's and both b's 2
--   costs_narrow           no cost has more than 16 bits
--   masks_light            each mask has 1 to 64 ones, so that nothing is taken from less
-- Assumes nothing.
use Rattle.std.specs.Prelude.{◌≡◌, refl, false, not, ◌||◌, List, [], ◌∷◌, ℕ, zero, suc, ◌+◌, ◌-◌, ◌^◌, ◌<◌, ◌≤◌, length, get_or}
use Rattle.std.proofs.Common.{ap, ap₂, ◌∙◌, zero-add, div-le_self, arith, lt-ltb}
use Rattle.std.proofs.Math.Nat.{mod-le}
use Rattle.kinds.specs.Limits.{cost_bits}
use Rattle.linear.specs.Bit.{bit}
use Rattle.words.specs.Masks.{wide}
use Rattle.forms.specs.Weight.{weight}
use Rattle.forms.specs.laws.Weight.{weight_most, mask_weight}
use Rattle.maps.specs.Generators.{generator_count, first_mask, second_mask, numbered, list_of, Masks, MaskNumber}
use Rattle.maps.specs.Generators.{masks_of_number, length_list_of, at_list_of}

-- "the ones in both factors less 2"
unfoldable pub generator_cost : ℕ → ℕ → ℕ
generator_cost m j = weight 64 (first_mask m j) + weight 64 (second_mask m j) - 2

unfoldable pub generator_costs : ℕ → ℕ → List ℕ
generator_costs n m = list_of (generator_cost m) 0 (generator_count n m)

pub cost_of_masks : (n m A B : ℕ) → Masks n m A B → generator_cost m (numbered m A B) ≡ weight 64 A + weight 64 B - 2
unfolding generator_cost
cost_of_masks n m A B M =
    let e = masks_of_number m A B M.some_left M.some_right M.right in ap₂ (λ (x y : ℕ). weight 64 x + weight 64 y - 2) e.0 e.1

pub costs_length : (n m : ℕ) → length (generator_costs n m) ≡ generator_count n m
unfolding generator_costs
costs_length n m = length_list_of (generator_cost m) 0 (generator_count n m)

pub costs_at : (n m j : ℕ) → j < generator_count n m → get_or (generator_costs n m) j 0 ≡ generator_cost m j
unfolding generator_costs
costs_at n m j h = at_list_of (generator_cost m) 0 (generator_count n m) j h ∙ ap (generator_cost m) (zero-add j)

costs_poly : generator_costs 2 2 ≡ 0 ∷ 0 ∷ 1 ∷ 0 ∷ 0 ∷ 1 ∷ 1 ∷ 1 ∷ 2 ∷ []
unfolding generator_costs generator_cost list_of generator_count first_mask second_mask weight bit
costs_poly = refl

-- ---- 16 bits
wide_list_of : (w : ℕ) (f : ℕ → ℕ) → ((j : ℕ) → f j < 2 ^ w) → (i c : ℕ) → wide w (list_of f i c) ≡ false
unfolding wide list_of
wide_list_of w f h i zero = refl
wide_list_of w f h i (suc c) = ap₂ ◌||◌ (ap not (lt-ltb (f i) (2 ^ w) (h i))) (wide_list_of w f h (suc i) c)

-- each mask has at most 64 ones
pub cost_small : (m j : ℕ) → generator_cost m j < 2 ^ cost_bits
unfolding generator_cost
cost_small m j = omega (arith, weight_most 64 (first_mask m j), weight_most 64 (second_mask m j))

pub costs_narrow : (n m : ℕ) → wide cost_bits (generator_costs n m) ≡ false
unfolding generator_costs
costs_narrow n m = wide_list_of cost_bits (generator_cost m) (cost_small m) 0 (generator_count n m)

-- ---- the code's difference
pub record Light (m j : ℕ) : Type 0 where
  pub some_left : 1 ≤ weight 64 (first_mask m j)
  pub left : weight 64 (first_mask m j) ≤ 64
  pub some_right : 1 ≤ weight 64 (second_mask m j)
  pub right : weight 64 (second_mask m j) ≤ 64

pub masks_light : (m j : ℕ) → MaskNumber m j → Light m j
unfolding first_mask second_mask
masks_light m j M =
    let f = M.few in
    record {
      some_left = mask_weight 64 (first_mask m j) (omega arith) (omega (arith, div-le_self j (2 ^ m - 1)));
      left = weight_most 64 (first_mask m j);
      some_right = mask_weight 64 (second_mask m j) (omega arith) (omega (arith, mod-le j (2 ^ m - 1)));
      right = weight_most 64 (second_mask m j);
    }
