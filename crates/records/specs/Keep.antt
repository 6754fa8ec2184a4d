-- An entry's numbers, the count so far, and what the functions of the records ask and give.
--   chain_of c        == the numbers of a chain
--   state_of t buffer == the state that a tally and the buffer are
--   Tidy c m         == the chain has room for m more numbers
--   Pushed c j r     == the chain r is c with the number j after it
--   Counting         == what `count` asks: the counts are in range
--   tallied          == the counts with one record more
--   EntryKeeping     == what `keep` asks
-- Assumes nothing.
use Rattle.std.specs.Prelude.{◌≡◌, List, [], ◌∷◌, ◌++◌, ℕ, ◌+◌, ◌≤◌, cond, eqb, leb, length, take}
use Rattle.bases.specs.Basis.{Valid}
use Rattle.bases.specs.declared.Basis.{Basis}
use Rattle.records.specs.Records.{State, Sane}
use Rattle.records.specs.declared.Chain.{Chain}
use Rattle.records.specs.declared.Tally.{Tally}

abbrev pub chain_of : Chain → List ℕ
chain_of c = take c.len c.numbers

abbrev pub state_of : Tally → List ℕ → State
state_of t buf = record { found = t.found; shown = t.shown; at = t.at; buf = buf }

pub record Tidy (c : Chain) (missing : ℕ) : Type 0 where
  pub whole : length c.numbers ≡ 8
  pub room : c.len + missing ≤ 8

pub record Pushed (c : Chain) (j : ℕ) (r : Chain) : Type 0 where
  pub whole : length r.numbers ≡ 8
  pub more : r.len ≡ c.len + 1
  pub is : chain_of r ≡ chain_of c ++ j ∷ []

pub record Counting (t : Tally) (limit room : ℕ) : Type 0 where
  pub limited : t.found ≤ limit
  pub fewer : t.shown ≤ t.found
  pub inside : t.at ≤ room

unfoldable pub tallied : (limit : ℕ) (t : Tally) (size room : ℕ) → Tally
tallied limit t size room =
    cond (eqb t.found limit) t
    (cond (leb (t.at + size) room) (record { found = t.found + 1; shown = t.shown + 1; at = t.at + size }) (record { found = t.found + 1; shown = t.shown; at = t.at }))

pub record EntryKeeping (b : Basis) (c : Chain) (t : Tally) (limit : ℕ) (out : List ℕ) : Type 0 where
  pub valid : Valid b
  pub tidy : Tidy c 0
  pub sane : Sane limit (state_of t out)
