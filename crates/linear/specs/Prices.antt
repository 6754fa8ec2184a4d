-- Prices: what a choice of generators costs, the cheapest of some choices, and the generators by price.
--   total prices es       == what the generators numbered es cost together; the generator number j costs what stands at j in `prices`
--   earlier es fs         == es stands before fs in a dictionary, as a test
--   precedes prices es fs == es costs less than fs, or as much and stands before it in a dictionary
--   cheapest prices l     == of the choices l the one that no other precedes
--   by_price base prices   == the generators' numbers, the cheaper first, among equals the lesser number first; `base` is above every number
--   along ok C js         == of the numbers js in order each that passes the test and whose generator is not in the span of C and what is taken
--   cheapest_in js W       == the numbers taken along js inside the space W, ascending
-- Document 02: "the cheapest among all formulae with r products in any entry, the dictionary_first among equals".
-- Laws: proofs/laws/Prices, proofs/laws/Greedy (`along`), proofs/laws/Cheapest. Assumes nothing.
use Rattle.std.specs.Prelude.{Bool, true, false, cond, ◌&&◌, ◌||◌, List, [], ◌∷◌, map, ℕ, suc, ◌+◌, ◌*◌, ◌%◌, get_or, eqb, ltb, Option, None, Some}
use Rattle.linear.specs.Space.{Space}
use Rattle.linear.specs.Basis.{insert}
use Rattle.linear.specs.Entry.{inside, generator}
use Rattle.linear.specs.Greedy.{wanted}
use Rattle.linear.specs.Sorted.{sorted}

unfoldable pub total : List ℕ → List ℕ → ℕ
total prices [] = 0
total prices (e ∷ es) = get_or prices e 0 + total prices es

unfoldable pub earlier : List ℕ → List ℕ → Bool
earlier [] [] = false
earlier [] (f ∷ fs) = true
earlier (e ∷ es) [] = false
earlier (e ∷ es) (f ∷ fs) = ltb e f || (eqb e f && earlier es fs)

module _ (prices : List ℕ) where
  unfoldable pub precedes : List ℕ → List ℕ → Bool
  precedes es fs = ltb (total prices es) (total prices fs) || (eqb (total prices es) (total prices fs) && earlier es fs)

  -- the better of what is held, if anything is, and one more
  unfoldable pub cheaper : Option (List ℕ) → List ℕ → Option (List ℕ)
  cheaper None es = Some es
  cheaper (Some fs) es = Some (cond (precedes es fs) es fs)

  unfoldable pub cheapest_from : Option (List ℕ) → List (List ℕ) → Option (List ℕ)
  cheapest_from held [] = held
  cheapest_from held (es ∷ l) = cheapest_from (cheaper held es) l

  abbrev pub cheapest : List (List ℕ) → Option (List ℕ)
  cheapest l = cheapest_from None l

-- a generator's cost and its number in one: cost × base + number
unfoldable pub price_keys : ℕ → ℕ → List ℕ → List ℕ
price_keys base j [] = []
price_keys base j (c ∷ cs) = (c * base + j) ∷ price_keys base (suc j) cs

unfoldable pub by_price : ℕ → List ℕ → List ℕ
by_price base prices = map (λ x. x % base) (sorted (price_keys base 0 prices))

module _ (S : Space) (gens : List S.Vec) where
  open S use {Vec}

  unfoldable pub along : (ℕ → Bool) → List Vec → List ℕ → List ℕ
  along ok C [] = []
  along ok C (j ∷ js) =
      let r = along ok (cond (wanted S gens ok C j) (insert S C (generator S gens j)) C) js in cond (wanted S gens ok C j) (j ∷ r) r

  unfoldable pub cheapest_in : List ℕ → List Vec → List ℕ
  cheapest_in js W = sorted (along (λ j. inside S W (generator S gens j)) [] js)
