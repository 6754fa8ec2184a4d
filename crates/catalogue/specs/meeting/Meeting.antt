-- The walk from the space that the targets span.
--   start buffer  == the state before: nothing is found, and the whole buffer is free
--   Rooted        == what the walk asks of the generators, the space's basis, k, the aim and the buffer
--   Met           == the state after: all entries met
-- Assumes nothing.
use Rattle.std.specs.Prelude.{◌≡◌, List, [], ℕ, ◌+◌, ◌-◌, ◌≤◌, length}
use Rattle.bases.specs.Basis.{rows_of, Valid}
use Rattle.bases.specs.declared.Basis.{Basis}
use Rattle.records.specs.declared.Tally.{Tally}
use Rattle.records.specs.Records.{State, runs}
use Rattle.records.specs.Keep.{state_of}
use Rattle.catalogue.specs.noting.Noting.{met, Menu, Steady}
use Rattle.catalogue.specs.walk.Walk.{search}
use Rattle.catalogue.specs.declared.noting.Aim.{Aim}
use Rattle.kinds.specs.Limits.{most_generators}

abbrev pub start : List ℕ → State
start buffer = record { found = 0; shown = 0; at = 0; buf = buffer }

pub record Rooted (gens : List ℕ) (b : Basis) (k : ℕ) (a : Aim) (order prices buffer : List ℕ) : Type 0 where
  pub small : length gens ≤ most_generators
  pub valid : Valid b
  pub least : b.len ≤ k
  pub near : k ≤ b.len + 6
  pub menu : Menu gens order prices a
  pub steady : Steady a (start buffer)

pub record Met (gens : List ℕ) (b : Basis) (k : ℕ) (a : Aim) (order prices buffer last : List ℕ) (t : Tally) : Type 0 where
  pub state : state_of t last ≡ runs (met gens order prices a) (start buffer) (search gens k (rows_of b) [] (length gens - 0) 0 (k - b.len))
