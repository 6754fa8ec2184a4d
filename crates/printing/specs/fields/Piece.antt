-- A piece of a text, written from a place of a buffer on.
--   Piece d at xs m d₁ e == d₁ is the buffer d with xs from place `at` on, as far as it reaches; e is the place after xs, which has at
--     most m bytes
-- Assumes nothing.
use Rattle.std.specs.Prelude.{ℕ, ◌+◌, ◌≤◌, ◌≡◌, List, length}
use Rattle.std.proofs.lemmas.List.Edits.{sets}

pub record Piece (d : List ℕ) (at : ℕ) (xs : List ℕ) (m : ℕ) (d₁ : List ℕ) (e : ℕ) : Type 0 where
  pub after : e ≡ at + length xs
  pub holds : d₁ ≡ sets d at xs
  pub most : length xs ≤ m
