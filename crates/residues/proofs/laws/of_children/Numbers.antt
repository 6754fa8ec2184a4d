-- Facts on numbers that the proofs of the walk and of the search cite: in the scope of their large arrays `omega` is slow.
--   as_few, as_many, inside, ends, within_numbers, some, falls_one, next_le   by an equation, at an end, one further
--   one_fits, eight_fits                                                 what fits a word
-- Assumes nothing.
use Rattle.std.specs.Prelude.{◌≡◌, ◌≢◌, ℕ, ◌+◌, ◌-◌, ◌*◌, ◌<◌, ◌≤◌}
use Rattle.std.proofs.Common.{arith, Fits}
use Rattle.std.specs.Int.{w64}
use Rattle.residues.specs.Room.{search_room}

pub as_few : {a b n : ℕ} → a ≡ b → b ≤ n → a ≤ n
as_few e l = omega arith

pub as_many : {a b n : ℕ} → a ≡ b → n ≤ b → n ≤ a
as_many e l = omega arith

pub inside : {a b j : ℕ} → a ≡ b → j < b → j < a
inside e l = omega arith

pub ends : {a b : ℕ} → a ≡ b → b ≤ a
ends e = omega arith

pub within_numbers : {n a : ℕ} → n ≤ search_room → a ≡ search_room → n ≤ a
within_numbers l e = omega arith

pub some : {m : ℕ} → m ≢ 0 → 1 ≤ m
some n = omega arith

pub falls_one : {m t : ℕ} → m ≡ t → m ≢ 0 → m - 1 < t
falls_one e n = omega arith

pub next_le : {j n : ℕ} → j < n → j + 1 ≤ n
next_le l = omega arith

pub one_fits : {j n : ℕ} → j < n → n ≤ search_room → Fits w64 (j + 1)
one_fits l k = record { fits = omega arith }

pub eight_fits : {j n : ℕ} → j < n → n ≤ search_room → Fits w64 (j * 8)
eight_fits l k = record { fits = omega arith }
