-- Prices summed one after the other, and lists compared as in a dictionary.
--   Summing prices es sum i            == sum is what the first i numbers of es cost
--   summing_start, number_there, summing_small, summing_next, summing_end   the loop: the number has a price, the sum of 64 prices is small
--   dictionary                         std's order of two lists of numbers is that of a dictionary
-- Assumes nothing.
use Rattle.std.specs.Ordering.{is_lt, is_some_and, partial_ordering_then, nat_cmp}
use Rattle.std.specs.Cmp.Lexicographic.{slice_partial_cmp}
use Rattle.std.specs.Prelude.{◌≡◌, refl, Bool, true, false, cond, ◌&&◌, ◌||◌, List, [], ◌∷◌, ℕ, ◌+◌, ◌*◌, ◌<◌, ◌≤◌, eqb, ltb, length, drop}
use Rattle.std.proofs.Math.Path.{ap}
use Rattle.std.proofs.Common.{Option, Some, Ordering, Less, Equal, Greater, drop_of_length-le}
use native.Mathlib.Omega.{arith}
use Rattle.std.proofs.Math.ListN.{get_or}
use Rattle.words.specs.laws.Scan.{next}
use Rattle.linear.specs.Prices.{total, earlier}
use Rattle.cheapest.specs.Offers.{Costed}
use Rattle.words.specs.laws.Masks.{below_at}
use Rattle.cheapest.specs.ordering.laws.Keys.{price_small}

-- ---- sums
module _ (prices es : List ℕ) where
  pub record Summing (sum i : ℕ) : Type 0 where
    pub within : i ≤ length es
    pub small : sum ≤ 65535 * i
    pub is : sum + total prices (drop i es) ≡ total prices es

  pub summing_start : Summing 0 0
  summing_start = record { within = omega arith; small = omega arith; is = omega arith }

  module _ (K : Costed prices es) (sum i : ℕ) (S : Summing sum i) (l : i < length es) where
    pub number_there : get_or es i 0 < length prices
    number_there = below_at (length prices) es i K.numbers l

    price_there : get_or prices (get_or es i 0) 0 < 65536
    price_there = price_small prices (get_or es i 0) K.narrow number_there

    pub summing_small : sum + get_or prices (get_or es i 0) 0 ≤ 4194304
    summing_small = let a = S.small in let b = K.few in omega (arith, price_there)

    pub summing_next : Summing (sum + get_or prices (get_or es i 0) 0) (i + 1)
    unfolding total
    summing_next =
        let e : total prices (drop i es) ≡ get_or prices (get_or es i 0) 0 + total prices (drop (i + 1) es) = ap (total prices) (next es i l) in
        record { within = omega arith; small = let a = S.small in omega (arith, price_there); is = let f = S.is in omega arith }

  pub summing_end : (sum i : ℕ) → Summing sum i → length es ≤ i → sum ≡ total prices es
  unfolding total
  summing_end sum i S l = let e : total prices (drop i es) ≡ 0 = ap (total prices) (drop_of_length-le es l) in let f = S.is in omega arith

-- ---- dictionary order
first_decides : (t u : Bool) (rest : Option Ordering) (r : Bool) → is_some_and is_lt rest ≡ r
    → is_some_and is_lt (partial_ordering_then (Some (cond t Less (cond u Equal Greater))) rest) ≡ (t || (u && r))
first_decides true u rest r e = refl
first_decides false true rest r e = e
first_decides false false rest r e = refl

pub dictionary : (xs ys : List ℕ) → is_some_and is_lt (slice_partial_cmp (λ x y. Some (nat_cmp x y)) xs ys) ≡ earlier xs ys
unfolding earlier
dictionary [] [] = refl
dictionary [] (y ∷ ys) = refl
dictionary (x ∷ xs) [] = refl
dictionary (x ∷ xs) (y ∷ ys) = first_decides (ltb x y) (eqb x y) _ _ (dictionary xs ys)
