-- What a choice by price is in the code.
--   price_base           == above every generator's number
--   Listed gens h order == a word of h for each generator, and every number of `order` a generator's
--   Costed prices es    == at most 64 numbers, each with a price, and every price of at most 16 bits
--   Along gens h order prices == Listed, and a price of at most 16 bits for each generator
--   taken_along gens h order   == along `order` the numbers whose word in h is 0 and whose generator is not in the span of those taken, ascending
--   Taken               == what the choice leaves in a buffer: those numbers from its start, and how many they are
--   priced prices es    == the cost of the numbers es, then they themselves
--   Written             == the cost of those numbers and they themselves, from a buffer's start
--   better first new old      == `new` is the first one, or stands before `old` in a dictionary
--   replaced first new held   == what the buffer `held` has after the list `new` was offered: `new` from the start, where it is better than as much of `held`
--   offered prices first fs held == the same of the formula with the numbers fs, its cost before its numbers: the lesser cost first, then the dictionary
-- Document 02: "the cheapest among all formulae with r products in any entry, the dictionary_first among equals". Laws: laws/Offers. Assumes nothing.
use Rattle.std.specs.Prelude.{◌≡◌, Bool, false, cond, ◌||◌, List, [], ◌∷◌, ℕ, ◌≤◌, length, get_or, take, eqb}
use Rattle.kinds.specs.Limits.{most_products, cost_bits}
use Rattle.words.specs.Buffers.{filled}
use Rattle.words.specs.Masks.{wide}
use Rattle.words.specs.laws.Masks.{AllBelow}
use Rattle.linear.specs.Word.{word}
use Rattle.linear.specs.Prices.{total, earlier, along}
use Rattle.linear.specs.Sorted.{sorted}

abbrev pub price_base : ℕ
price_base = 4096

pub record Listed (gens h order : List ℕ) : Type 0 where
  pub words : length h ≡ length gens
  pub numbers : AllBelow (length gens) order

pub record Costed (prices es : List ℕ) : Type 0 where
  pub few : length es ≤ most_products
  pub numbers : AllBelow (length prices) es
  pub narrow : wide cost_bits prices ≡ false

pub record Along (gens h order prices : List ℕ) : Type 0 where
  pub listed : Listed gens h order
  pub each : length prices ≡ length gens
  pub narrow : wide cost_bits prices ≡ false

abbrev pub taken_along : (gens h order : List ℕ) → List ℕ
taken_along gens h order = sorted (along word gens (λ j. eqb (get_or h j 0) 0) [] order)

pub record Taken (gens h order before : List ℕ) (n : ℕ) (after : List ℕ) : Type 0 where
  pub many : n ≡ length (taken_along gens h order)
  pub room : n ≤ most_products
  pub below : AllBelow (length gens) (taken_along gens h order)
  pub is : after ≡ filled (taken_along gens h order) before

abbrev pub priced : (prices es : List ℕ) → List ℕ
priced prices es = total prices es ∷ es

pub record Written (prices es before : List ℕ) (n : ℕ) (after : List ℕ) : Type 0 where
  pub many : n ≡ length es
  pub room : n ≤ most_products
  pub is : after ≡ filled (priced prices es) before

abbrev pub better : Bool → List ℕ → List ℕ → Bool
better first new old = first || earlier new old

abbrev pub replaced : Bool → List ℕ → List ℕ → List ℕ
replaced first new held = cond (better first new (take (length new) held)) (filled new held) held

unfoldable pub offered : List ℕ → Bool → List ℕ → List ℕ → List ℕ
offered prices first fs held = replaced first (priced prices fs) held
