-- The cheapest formula of all entries for k.
--   held k r buffer    == the formula held: its k numbers, behind its cost; none where r is false
--   cheapest_for        == of all entries for k the cheapest formula, that of each being taken by price
--   CheapestAsked      == what is asked of the generators, of the targets' basis, of k and of the buffer
--   CheapestFrom       == the promise: the formula held is that, of all targets that have the basis
-- That this is the cheapest of all formulae with k products: linear, Theorems. Assumes nothing.
use Rattle.std.specs.Prelude.{◌≡◌, Bool, true, false, List, map, ℕ, ◌+◌, ◌≤◌, length, take, drop, Option, None, Some}
use Rattle.linear.specs.Basis.{basis_of}
use Rattle.linear.specs.Entry.{entries, space}
use Rattle.linear.specs.Prices.{cheapest, cheapest_in, by_price}
use Rattle.linear.specs.Word.{word}
use Rattle.bases.specs.Basis.{Valid, Holds}
use Rattle.bases.specs.declared.Basis.{Basis}
use Rattle.cheapest.specs.Offers.{price_base}
use Rattle.catalogue.specs.noting.Noting.{PricedMenu, formula_room}
use Rattle.kinds.specs.Limits.{most_generators}

abbrev pub held : ℕ → Bool → List ℕ → Option (List ℕ)
held k true buffer = Some (take k (drop 1 buffer))
held k false buffer = None

abbrev pub cheapest_for : (gens order prices targets : List ℕ) → ℕ → Option (List ℕ)
cheapest_for gens order prices targets k = cheapest prices (map (λ es. cheapest_in word gens order (space word gens targets es)) (entries word gens targets k))

pub record CheapestAsked (gens : List ℕ) (b : Basis) (k : ℕ) (order prices buffer : List ℕ) : Type 0 where
  pub small : length gens ≤ most_generators
  pub valid : Valid b
  pub least : b.len ≤ k
  pub near : k ≤ b.len + 6
  pub priced : PricedMenu gens order prices
  pub by_price_law : order ≡ by_price price_base prices
  pub room : formula_room ≤ length buffer

abbrev pub CheapestFrom : (gens : List ℕ) (b : Basis) (k : ℕ) (order prices : List ℕ) (r : Bool) (buffer : List ℕ) → Type 0
CheapestFrom gens b k order prices r buffer =
    (targets : List ℕ) → Holds (basis_of word targets) b → cheapest_for gens order prices targets k ≡ held k r buffer
