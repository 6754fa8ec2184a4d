-- What Rank says of forms, with what it writes.
--   Ranking                  == r with the buffer's content, above, or beyond
--   ranking gens targets prices old == what is said of the generators, their prices and the targets, in a buffer that holds old
--   seen_ranked r after       == what the code's answer r says, the buffer holding `after`
--   rank_numbers r            == its numbers: the refusal's; 0 for a rank, 1 above, 2 beyond; the rank; `rank_values`, the same of what is accepted
--   lent_ranking a old        == the buffer's content at exit: as it was, unless a formula was written
-- Document 02: "Rank's formula becomes the cheapest among all formulae with r products in any entry, the dictionary_first among equals"; document 01,
-- refusal 9: "in a
-- Rank, too short for the very formula it would reply".
-- What `fewest` is and that it is the rank: linear's `Theorems` (rank_formula, rank_exactly, rank_above, rank_beyond). Assumes nothing.
use Rattle.std.specs.Prelude.{◌≡◌, false, List, [], ◌∷◌, ℕ, ◌+◌, ◌≤◌, length, take, drop, ltb, None, Some, Option}
use Rattle.kinds.specs.Limits.{most_generators, most_products, cost_bits}
use Rattle.kinds.specs.Refusal.{Answer, refused, accepted, refuse}
use Rattle.kinds.specs.Numbers.{refusal_numbers, answer_numbers}
use Rattle.words.specs.Buffers.{filled}
use Rattle.words.specs.Masks.{wide}
use Rattle.words.specs.laws.Masks.{AllBelow}
use Rattle.linear.specs.Basis.{basis_of}
use Rattle.linear.specs.Entry.{chosen}
use Rattle.linear.specs.Formulae as formulae
use Rattle.linear.specs.Formulae.{Fewest, fewest, least_from}
use Rattle.linear.specs.Prices.{by_price}
use Rattle.linear.specs.Word.{word}
use Rattle.bases.specs.Basis.{Valid, Holds}
use Rattle.bases.specs.declared.Basis.{Basis}
use Rattle.cheapest.specs.Offers.{price_base}
use Rattle.catalogue.specs.noting.Noting.{PricedMenu, formula_room}
use Rattle.choices.specs.Choice.{Solves, formula_record}
use Rattle.rank.specs.declared.fewest.Ranked.{Ranked}
use Rattle.rank.specs.declared.fewest.Ranked.TheVariants as ranked

pub data Ranking : Type 0 where
  is : (r : ℕ) (buffer : List ℕ) → Ranking
  above : Ranking
  beyond : Ranking

abbrev pub written : (gens targets old : List ℕ) → Fewest → Answer Ranking
written gens targets old (formulae.formula es) = refuse 9 (ltb (length old) (length es + length targets)) (accepted (is (length es) (filled (formula_record gens targets es) old)))
written gens targets old formulae.above = accepted above
written gens targets old formulae.beyond = accepted beyond

unfoldable pub ranking : (gens targets prices old : List ℕ) → Answer Ranking
ranking gens targets prices old = written gens targets old (fewest word gens targets prices)

-- the answer of the code
abbrev pub seen_ranked : Ranked → List ℕ → Answer Ranking
seen_ranked (ranked.Refused e) after = refused e
seen_ranked (ranked.Is r) after = accepted (is r after)
seen_ranked ranked.Above after = accepted above
seen_ranked ranked.Beyond after = accepted beyond

-- "A refusal is its number, every other number of the reply 0."
abbrev pub rank_numbers : Ranked → List ℕ
rank_numbers (ranked.Refused e) = refusal_numbers 2 e
rank_numbers (ranked.Is r) = answer_numbers (0 ∷ r ∷ [])
rank_numbers ranked.Above = answer_numbers (1 ∷ 0 ∷ [])
rank_numbers ranked.Beyond = answer_numbers (2 ∷ 0 ∷ [])

abbrev pub rank_values : Ranking → List ℕ
rank_values (is r buffer) = 0 ∷ r ∷ []
rank_values above = 1 ∷ 0 ∷ []
rank_values beyond = 2 ∷ 0 ∷ []

abbrev pub lent_ranking : Answer Ranking → List ℕ → List ℕ
lent_ranking (refused e) old = old
lent_ranking (accepted (is r buffer)) old = buffer
lent_ranking (accepted above) old = old
lent_ranking (accepted beyond) old = old

-- what the steps of the search ask and say
pub record Asking (gens : List ℕ) (b : Basis) (order prices buffer : List ℕ) : Type 0 where
  pub small : length gens ≤ most_generators
  pub valid : Valid b
  pub priced : PricedMenu gens order prices
  pub by_price_law : order ≡ by_price price_base prices
  pub room : formula_room ≤ length buffer

-- the cheapest formula of the least number of dimensions, k, stands behind its cost
abbrev pub LeastFound : (gens targets prices : List ℕ) → ℕ → Option ℕ → List ℕ → Type 0
LeastFound gens targets prices ell None buffer = least_from word gens targets prices 7 ell ≡ None
LeastFound gens targets prices ell (Some k) buffer = least_from word gens targets prices 7 ell ≡ Some (take k (drop 1 buffer))

-- the entries are those of the targets' space: any targets that span it have them
abbrev pub LeastFrom : (gens : List ℕ) → Basis → List ℕ → Option ℕ → List ℕ → Type 0
LeastFrom gens b prices r buffer = (targets : List ℕ) → Holds (basis_of word targets) b → LeastFound gens targets prices b.len r buffer

pub record Finishing (gens targets numbers : List ℕ) : Type 0 where
  pub small : length gens ≤ most_generators
  pub below : AllBelow (length gens) numbers
  pub few : length numbers ≤ most_products
  pub solves : Solves (chosen word gens numbers) targets

-- what Rank asks of the generators, the targets' basis and the prices: a price of at most 16 bits for each generator
pub record RankAsked (gens targets prices : List ℕ) (b : Basis) : Type 0 where
  pub few : length gens ≤ most_generators
  pub each : length prices ≡ length gens
  pub narrow : wide cost_bits prices ≡ false
  pub basis : Holds (basis_of word targets) b
