-- Along a row: the sums of a value x and those of the numbers h, the last of which is the number n of values.
--   Valued v n            == there is room for the values of n numbers, and no other number has one
--   NextFilled .. from r  == r is the first number from `from` on, with a value or n itself, whose sum with x is in a bucket with a pair; n + 1 where none is
-- Laws: laws/Filled. Assumes nothing.
use Rattle.std.specs.Prelude.{◌≡◌, ◌≢◌, ◌⊎◌, List, ℕ, suc, ◌<◌, ◌≤◌, length, get_or}
use Rattle.std.specs.Int.Bits.{bit_xor}
use Rattle.relations.specs.pairs.Bucket.{bucket_of}
use Rattle.residues.specs.Room.{search_room}

pub record Valued (v : List ℕ) (n : ℕ) : Type 0 where
  pub few : n ≤ search_room
  pub all : length v ≡ search_room
  pub none : (i : ℕ) → n ≤ i → get_or v i 0 ≡ 0

pub record NextFilled (v : List ℕ) (n : ℕ) (heads : List ℕ) (x from r : ℕ) : Type 0 where
  pub low : from ≤ r
  pub high : r ≤ suc n
  pub none : (h : ℕ) → from ≤ h → h < r → (h ≡ n) ⊎ (get_or v h 0 ≢ 0) → get_or heads (bucket_of (bit_xor x (get_or v h 0))) 0 ≡ 0
  pub filled : r ≤ n → get_or heads (bucket_of (bit_xor x (get_or v r 0))) 0 ≢ 0
