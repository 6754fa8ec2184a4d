-- Numbers that have to be looked at beside a value.
--   Half left r   == a weight below r is 0, or less than half of left
--   Halved ..     == a number from start on and below n that is not marked has no weight, or less than half of left, or is gone
--   Third ..      == the number i has the value x, or too little together with the sum of the two
--   ThirdAsked .. == what `third` asks: a table with its numbers, i is one of them, and there are as many weights as there may be numbers
--   Joining ..    == what `join` asks: the same of the numbers from start on, and their flags and marks
--   Join ..       == what it gives: a number from start on that is not picked lacks what is needed, and where r is false none is picked
-- Laws: laws/Join. Assumes nothing.
use Rattle.std.specs.Prelude.{◌≡◌, ◌≢◌, ◌⊎◌, Bool, false, List, ℕ, ◌+◌, ◌<◌, ◌≤◌, length, get_or}
use Rattle.std.specs.Int.Bits.{bit_xor}
use Rattle.residues.specs.children.Weighed.{Joined}
use Rattle.weights.specs.Table.{weight_of, Slots}
use Rattle.residues.specs.Room.{search_room}

pub record Half (left r : ℕ) : Type 0 where
  pub less : (n : ℕ) → n < r → (n ≡ 0) ⊎ (n + n < left)

pub record Halved (start n left : ℕ) (gone w picks : List ℕ) : Type 0 where
  pub out : (i : ℕ) → start ≤ i → i < n → get_or picks i 0 ≡ 0 → ((get_or w i 0 ≡ 0) ⊎ (get_or w i 0 + get_or w i 0 < left)) ⊎ (get_or gone i 0 ≢ 0)

abbrev pub Third : List ℕ → ℕ → ℕ → ℕ → List ℕ → (ℕ → ℕ) → Type 0
Third d i x left w bound = (get_or d i 0 ≡ x) ⊎ (get_or w i 0 + bound (bit_xor (get_or d i 0) x) < left)

pub record ThirdAsked (d : List ℕ) (i : ℕ) (slots w : List ℕ) : Type 0 where
  pub table : Slots slots d
  pub few : length d ≤ search_room
  pub inside : i < length d
  pub all : length w ≡ search_room

pub record Joining (d : List ℕ) (start : ℕ) (gone slots w picks : List ℕ) : Type 0 where
  pub table : Slots slots d
  pub few : length d ≤ search_room
  pub begin : start ≤ length d
  pub gone_all : length gone ≡ search_room
  pub all : length w ≡ search_room
  pub picks_all : length picks ≡ search_room

pub record Join (d : List ℕ) (start x left : ℕ) (gone slots w picks : List ℕ) (r : Bool) : Type 0 where
  pub joined : Joined d start x left gone w (weight_of slots d w) picks
  pub none : r ≡ false → (i : ℕ) → start ≤ i → i < length d → get_or picks i 0 ≡ 0
