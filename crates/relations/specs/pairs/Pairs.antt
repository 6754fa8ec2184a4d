-- Pairs of numbers by the sum of their values. `v` has a value for each number, 0 where it has none; a block is eight numbers from `base` on. The pair of i, a
-- number of the block, and of a later j has the place (i - base) * 4096 + j, and a pointer is a place and one, or 0. The pairs of a bucket are a chain of
-- pointers that fall: from the bucket's head to the first, from each to the next.
--   block_size, link_room, head_room == the numbers of a block, the places of its pairs, the buckets
--   first_of base x, second_of x    == the two numbers of the pair at the place x
--   place_of base i j              == the place of the pair of i and j
--   Stored v n base q x           == at x is a pair of numbers with values, the second below n, whose sum is of the bucket q
--   Falling links                 == each pointer leads to an earlier place
--   Chained v n base links        == from a pair each chain goes on to the last earlier pair of its bucket
--   Headed v n base heads         == each bucket's head is its last pair
--   Values d start w gone v       == v has the values of the numbers from start on that have the weight 1 and are not gone; none behind the last
--   Match gens s v base g y f x   == the pair at x stands before g, has the sum y, and its generators with the form f are not in the span of s
--   MatchFrom .. e r              == r is the first pointer from e on along its chain whose pair is a match, or 0
-- Laws: laws. Assumes nothing.
use Rattle.std.specs.Prelude.{◌≡◌, ◌≢◌, List, ℕ, ◌+◌, ◌-◌, ◌*◌, ◌/◌, ◌%◌, ◌<◌, ◌≤◌, length, get_or}
use Rattle.std.specs.Int.Bits.{bit_xor}
use Rattle.linear.specs.Basis.{reduce}
use Rattle.linear.specs.Word.{word}
use Rattle.relations.specs.pairs.Bucket.{bucket_of}
use Rattle.residues.specs.Room.{search_room}

abbrev pub block_size : ℕ
block_size = 8

abbrev pub link_room : ℕ
link_room = 32768

abbrev pub head_room : ℕ
head_room = 65536

abbrev pub first_of : ℕ → ℕ → ℕ
first_of base x = base + x / 4096

abbrev pub second_of : ℕ → ℕ
second_of x = x % 4096

abbrev pub place_of : ℕ → ℕ → ℕ → ℕ
place_of base i j = (i - base) * 4096 + j

pub record Stored (v : List ℕ) (n base q x : ℕ) : Type 0 where
  pub room : x < link_room
  pub rising : first_of base x < second_of x
  pub below : second_of x < n
  pub first : get_or v (first_of base x) 0 ≢ 0
  pub second : get_or v (second_of x) 0 ≢ 0
  pub bucket : bucket_of (bit_xor (get_or v (first_of base x) 0) (get_or v (second_of x) 0)) ≡ q

abbrev pub Falling : List ℕ → Type 0
Falling links = (x : ℕ) → get_or links x 0 ≤ x

pub record Chained (v : List ℕ) (n base : ℕ) (links : List ℕ) : Type 0 where
  pub falls : Falling links
  pub onward : (q x y : ℕ) → Stored v n base q x → Stored v n base q y → x < y → x < get_or links y 0
  pub link : (q y : ℕ) → Stored v n base q y → get_or links y 0 ≢ 0 → Stored v n base q (get_or links y 0 - 1)

pub record Headed (v : List ℕ) (n base : ℕ) (heads : List ℕ) : Type 0 where
  pub held : (q x : ℕ) → Stored v n base q x → x < get_or heads q 0
  pub head : (q : ℕ) → get_or heads q 0 ≢ 0 → Stored v n base q (get_or heads q 0 - 1)

pub record Values (d : List ℕ) (start : ℕ) (w gone v : List ℕ) : Type 0 where
  pub whole : length v ≡ search_room
  pub is : (i : ℕ) → start ≤ i → i < length d → get_or w i 0 ≡ 1 → get_or gone i 0 ≡ 0 → get_or v i 0 ≡ get_or d i 0
  pub none : (i : ℕ) → length d ≤ i → get_or v i 0 ≡ 0

pub record Match (gens s v : List ℕ) (base g y f x : ℕ) : Type 0 where
  pub before : second_of x < g
  pub sum : bit_xor (get_or v (first_of base x) 0) (get_or v (second_of x) 0) ≡ y
  pub free : reduce word s (bit_xor (bit_xor (get_or gens (first_of base x) 0) (get_or gens (second_of x) 0)) f) ≢ 0

pub record MatchFrom (gens s v : List ℕ) (base g y f e r : ℕ) : Type 0 where
  pub low : r ≤ e
  pub kept : r ≢ 0 → Stored v (length gens) base (bucket_of y) (r - 1)
  pub before : r ≢ 0 → second_of (r - 1) < g
  pub none : (x : ℕ) → Stored v (length gens) base (bucket_of y) x → x < e → r ≤ x → ¬ Match gens s v base g y f x
