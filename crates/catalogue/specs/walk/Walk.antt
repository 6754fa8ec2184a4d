-- What the walk asks and gives.
--   search gens k C p n i m == what the walk meets: from the space C, reached with the numbers p, for m more numbers out of i, .., i + n - 1. It is the
--                              numbers, and the rows of the basis
--   Node                    == what `walk` asks
-- At the start of the walk these are the entries: `search_is` (proofs/laws/of_walk/Search). Assumes nothing.
use Rattle.std.specs.Prelude.{◌≡◌, List, ℕ, ◌≤◌, length}
use Rattle.linear.specs.Word.{word}
use Rattle.linear.specs.Walk.{spans, walk}
use Rattle.bases.specs.Basis.{rows_of, Valid}
use Rattle.bases.specs.declared.Basis.{Basis}
use Rattle.records.specs.Keep.{state_of, Tidy}
use Rattle.records.specs.declared.Chain.{Chain}
use Rattle.records.specs.declared.Tally.{Tally}
use Rattle.residues.specs.children.Residues.{residues, known}
use Rattle.residues.specs.Room.{search_room}
use Rattle.catalogue.specs.noting.Noting.{Menu, Steady}
use Rattle.catalogue.specs.declared.noting.Aim.{Aim}

abbrev pub search : List ℕ → ℕ → List ℕ → List ℕ → ℕ → ℕ → ℕ → List (List ℕ × List ℕ)
search gens k = walk word gens (λ C i. known (residues gens C) i) (spans word gens k) (λ p C. (p, C))

pub record Node (gens h : List ℕ) (start missing : ℕ) (b : Basis) (c : Chain) (t : Tally) (a : Aim) (order prices out : List ℕ) : Type 0 where
  pub left : h ≡ residues gens (rows_of b)
  pub small : length gens ≤ search_room
  pub begin : start ≤ length gens
  pub valid : Valid b
  pub tidy : Tidy c missing
  pub menu : Menu gens order prices a
  pub steady : Steady a (state_of t out)
