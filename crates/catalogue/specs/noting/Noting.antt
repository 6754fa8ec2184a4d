-- What becomes of an entry that the walk meets: its extension p and the basis C of its space.
--   met aim s (p, C) == the state after it: its record p ++ C is noted, up to a limit; or the cheapest formula of C is offered against the one held
--   is_full aim found == nothing that is met changes anything
--   Steady aim s     == the counts are in range; or the buffer has room for the cost of a formula and its numbers
--   PricedMenu ..        == every number of `order` is a generator's, and each generator has a price of at most 16 bits
--   Menu aim ..      == that, where the cheapest formula is sought
--   Meeting          == what `note` asks
-- What is offered and held: `cheapest`. Assumes nothing.
use Rattle.std.specs.Prelude.{◌≡◌, Bool, false, List, ◌++◌, ℕ, suc, ◌≤◌, length, eqb}
use Rattle.linear.specs.Prices.{cheapest_in}
use Rattle.linear.specs.Word.{word}
use Rattle.bases.specs.Basis.{rows_of, Valid}
use Rattle.bases.specs.declared.Basis.{Basis}
use Rattle.residues.specs.children.Residues.{residues}
use Rattle.records.specs.Records.{State, note, Sane}
use Rattle.records.specs.Keep.{state_of, Tidy}
use Rattle.records.specs.declared.Chain.{Chain}
use Rattle.records.specs.declared.Tally.{Tally}
use Rattle.words.specs.Masks.{wide}
use Rattle.words.specs.laws.Masks.{AllBelow}
use Rattle.cheapest.specs.Offers.{offered}
use Rattle.kinds.specs.Limits.{most_products, cost_bits}
use Rattle.catalogue.specs.declared.noting.Aim.{Aim}
use Rattle.catalogue.specs.declared.noting.Aim.TheVariants as aim

pub record PricedMenu (gens order prices : List ℕ) : Type 0 where
  pub numbers : AllBelow (length gens) order
  pub each : length prices ≡ length gens
  pub narrow : wide cost_bits prices ≡ false

-- the cost of a formula, and its numbers
abbrev pub formula_room : ℕ
formula_room = suc most_products

abbrev pub is_full : Aim → ℕ → Bool
is_full (aim.Records limit) found = eqb found limit
is_full aim.Cheapest found = false

module _ (gens order prices : List ℕ) where
  abbrev pub met : Aim → State → List ℕ × List ℕ → State
  met (aim.Records limit) s e = note limit s (e.0 ++ e.1)
  met aim.Cheapest s e =
      record { found = 1; shown = s.shown; at = s.at; buf = offered prices (eqb s.found 0) (cheapest_in word gens order e.1) s.buf }

  abbrev pub Menu : Aim → Type 0
  Menu (aim.Records limit) = Unit {0}
  Menu aim.Cheapest = PricedMenu gens order prices

abbrev pub Steady : Aim → State → Type 0
Steady (aim.Records limit) s = Sane limit s
Steady aim.Cheapest s = formula_room ≤ length s.buf

pub record Meeting (gens h : List ℕ) (b : Basis) (c : Chain) (t : Tally) (a : Aim) (order prices out : List ℕ) : Type 0 where
  pub left : h ≡ residues gens (rows_of b)
  pub valid : Valid b
  pub tidy : Tidy c 0
  pub menu : Menu gens order prices a
  pub steady : Steady a (state_of t out)
