-- What the recursion over the formulae of a space asks and gives.
--   formulae_from gens w targets C p n i m == the records that it emits: from the basis C of the generators numbered p, for m more numbers out of i, .., i + n - 1
--   Branch ..                             == what `spread` asks: w is reduced and spans the targets, b is the basis of a part of it with `missing` dimensions
--                                            less, and c holds generators with that basis, as many as it has rows
-- From the empty basis the records are those of all formulae: `formulae_from_law` (laws/Spread). Assumes nothing.
use Rattle.std.specs.Prelude.{◌≡◌, List, ℕ, ◌+◌, ◌≤◌, length}
use Rattle.linear.specs.Basis.{basis_of, Reduced}
use Rattle.linear.specs.Rank.{Computes}
use Rattle.linear.specs.Word.{word}
use Rattle.linear.specs.Spread.{spread, Inner}
use Rattle.bases.specs.Basis.{rows_of, Valid}
use Rattle.bases.specs.declared.Basis.{Basis}
use Rattle.choices.specs.declared.Choice.{Choice}
use Rattle.choices.specs.Choice.{numbers_of, forms_of, Chose, formula_record}
use Rattle.records.specs.declared.Tally.{Tally}
use Rattle.records.specs.Records.{Sane}
use Rattle.records.specs.Keep.{state_of}
use Rattle.kinds.specs.Limits.{most_products}

abbrev pub formulae_from : (gens w targets C p : List ℕ) → ℕ → ℕ → ℕ → List (List ℕ)
formulae_from gens w targets C p n i m = spread word gens w (formula_record gens targets) C p n i m

pub record Branch (gens w targets : List ℕ) (missing : ℕ) (b : Basis) (c : Choice) (t : Tally) (limit : ℕ) (out : List ℕ) : Type 0 where
  pub space : Reduced word w
  pub computes : Computes word targets w
  pub valid : Valid b
  pub inner : Inner word w (rows_of b) missing
  pub chose : Chose gens (numbers_of c) c
  pub basis : basis_of word (forms_of c) ≡ rows_of b
  pub number : c.len + missing ≡ length w
  pub room : length w ≤ most_products
  pub sane : Sane limit (state_of t out)
