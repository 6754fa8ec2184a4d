-- Facts on numbers that the walk's proof cites: of the chain and what is missing, of the number that comes next, of the residues' array.
-- Assumes nothing.
use native.Mathlib.Omega.{arith}
use mathlib.Core.Path.{◌≡◌}
use mathlib.Core.Logic.{◌≢◌}
use Prim.Native.Nat.{ℕ, ◌+◌, ◌-◌, ◌<◌, ◌≤◌}
use lib.ListN.{length, replicate, length-replicate}
use Rattle.records.specs.Keep.{Tidy}
use Rattle.records.specs.declared.Chain.{Chain}
use Rattle.residues.specs.Room.{search_room}

pub le_refl : {a : ℕ} → a ≤ a
le_refl = omega arith

pub tidy_none : {c : Chain} {m : ℕ} → Tidy c m → Tidy c 0
tidy_none T = record { whole = T.whole; room = omega (arith, T.room) }

pub tidy_one : {c : Chain} {m : ℕ} → Tidy c m → m ≢ 0 → Tidy c 1
tidy_one T n = record { whole = T.whole; room = omega (arith, T.room) }

pub few_missing : {c : Chain} {m : ℕ} → Tidy c m → m ≤ 8
few_missing T = omega (arith, T.room)

pub later : {a j : ℕ} → a ≤ j → a ≤ j + 1
later l = omega arith

pub after : {a j r : ℕ} → a ≤ j → j + 1 ≤ r → a ≤ r
after l k = omega arith

pub fewer : {j r n : ℕ} → j < n → j + 1 ≤ r → r ≤ n → n - r < n - j
fewer a b c = omega arith

pub mine_all : length (replicate {A = ℕ} search_room 0) ≡ search_room
mine_all = length-replicate {A = ℕ} search_room 0
