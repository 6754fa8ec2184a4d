-- The formulae of a space, and the fewest products that compute the targets, at the least price.
--   formulae gens W        == the formulae of the space W, each by the numbers of its products, in dictionary order
--   all_formulae k          == the formulae of all entries for k
--   least_from n k          == the cheapest formula of the least number of dimensions that has one, out of k, k + 1, .., k + n - 1
--   Fewest                 == what Rank says: the products of a formula, above, or beyond
--   fewest gens targets prices == what Rank says of the targets; the generator number j costs what stands at j in `prices`
--   Formula W es           == es are the numbers of a formula of the space W: as many as its dimensions, rising, independent, spanning it
--   RankFormula fs         == what is true of the formula that Rank says
-- The theorems are in `Theorems`. Assumes nothing.
use Rattle.std.specs.Prelude.{◌≡◌, ◌⊎◌, Bool, not, cond, ℕ, zero, suc, ◌+◌, ◌<◌, ◌≤◌, length, Option, None, Some}
use mathlib.Core.List.{List, [], ◌∷◌, Memᴰ}
use Rattle.linear.specs.Space.{Space}
use Rattle.linear.specs.Span.{Independent, SameSpan}
use Rattle.linear.specs.Basis.{basis_of, dim}
use Rattle.linear.specs.Order.{Before, Rising, rising_lists}
use Rattle.linear.specs.Rank.{Computes, Rank}
use Rattle.linear.specs.Select.{any_of, only}
use Rattle.linear.specs.Entry.{same_basis, inside, chosen, space, entries}
use Rattle.linear.specs.Share.{gather}
use Rattle.linear.specs.Prices.{total, cheapest}

-- the first of a list, and a second choice where there is no first
abbrev pub first : {A : Type 0} → List A → Option A
first [] = None
first (x ∷ l) = Some x

abbrev pub or_else : {A : Type 0} → Option A → Option A → Option A
or_else (Some x) y = Some x
or_else None y = y

pub data Fewest : Type 0 where
  formula : List ℕ → Fewest
  above : Fewest
  beyond : Fewest

-- what Rank says of the formula that it found first, counting dimensions up
abbrev pub first_formula : Option (List ℕ) → Fewest
first_formula None = above
first_formula (Some fs) = formula fs

module _ (S : Space) (gens : List S.Vec) where
  open S use {Vec}

  -- Document 01: "A formula of a space is a set of k independent menu forms spanning it. They are listed ascending in dictionary order".
  -- As many generators as the space has dimensions are independent if they span it.
  unfoldable pub formulae : List Vec → List (List ℕ)
  formulae W = only (λ es. same_basis S (basis_of S (chosen S gens es)) W) (rising_lists (length gens) 0 (length W))

  module _ (targets : List Vec) where
    unfoldable pub all_formulae : ℕ → List (List ℕ)
    all_formulae k = gather (λ es. formulae (space S gens targets es)) (entries S gens targets k)

    -- some target is no combination of the generators
    unfoldable pub missed : Bool
    missed = any_of (λ t. not (inside S (basis_of S gens) t)) targets

    module _ (prices : List ℕ) where
      unfoldable pub least_from : ℕ → ℕ → Option (List ℕ)
      least_from zero k = None
      least_from (suc n) k = or_else (cheapest prices (all_formulae k)) (least_from n (suc k))

      -- Document 02: "Rank's formula becomes the cheapest among all formulae with r products in any entry, the dictionary_first among equals."
      -- Document 01: "It replies Above exactly if the menu spans T but no k from ℓ to ℓ + 6 has an entry, and Beyond exactly if the menu doesn't span T."
      unfoldable pub fewest : Fewest
      fewest = cond missed beyond (first_formula (least_from 7 (dim S targets)))

-- what it is to be a formula of a space, and what it is to be the one that Rank says
module _ (S : Space) (gens : List S.Vec) where
  open S use {Vec}

  pub record Formula (W : List Vec) (es : List ℕ) : Type 0 where
    pub number : length es ≡ length W
    pub rising : Rising 0 (length gens) es
    pub independent : Independent S (chosen S gens es)
    pub spanning : SameSpan S (chosen S gens es) W

module _ (S : Space) (gens targets : List S.Vec) (prices : List ℕ) where
  -- a formula that Rank says
  pub record RankFormula (fs : List ℕ) : Type 0 where
    pub entry : List ℕ
    pub an_entry : Memᴰ entry (entries S gens targets (length fs))
    pub formula_of_law : Memᴰ fs (formulae S gens (space S gens targets entry))
    pub rising : Rising 0 (length gens) fs
    pub independent : Independent S (chosen S gens fs)
    pub computes : Computes S targets (chosen S gens fs)
    pub near : length fs ≤ dim S targets + 6
    pub rank : Rank S gens targets (length fs)
    -- none is cheaper: whatever generators compute the targets, in any order
    pub none_cheaper : (es : List ℕ) → ((e : ℕ) → Memᴰ e es → e < length gens) → length es ≡ length fs → Computes S targets (chosen S gens es)
        → total prices fs ≤ total prices es
    -- and of those that cost as much none stands before it in a dictionary
    pub first_of_equals : (es : List ℕ) → Rising 0 (length gens) es → length es ≡ length fs → Computes S targets (chosen S gens es)
        → total prices es ≡ total prices fs → (fs ≡ es) ⊎ Before fs es
