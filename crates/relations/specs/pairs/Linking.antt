-- The table of a block's pairs while it is made: pairs are entered by ascending places.
--   Linking v n base b heads links == the pairs at places below b are in the table, no others
--   Row v n base i                 == i is a number of the block, and has a value
--   BlockEnd n base e              == the block's numbers are those from base on and below e
-- Laws: laws/Link. Assumes nothing.
use Rattle.std.specs.Prelude.{◌≡◌, ◌≢◌, List, ℕ, ◌+◌, ◌-◌, ◌<◌, ◌≤◌, length, get_or}
use Rattle.relations.specs.pairs.Pairs.{block_size, link_room, head_room, Stored, Falling}
use Rattle.residues.specs.Room.{search_room}

pub record Linking (v : List ℕ) (n base b : ℕ) (heads links : List ℕ) : Type 0 where
  pub heads_all : length heads ≡ head_room
  pub links_all : length links ≡ link_room
  pub falls : Falling links
  pub low : (q : ℕ) → get_or heads q 0 ≤ b
  pub held : (q x : ℕ) → Stored v n base q x → x < b → x < get_or heads q 0
  pub head : (q : ℕ) → get_or heads q 0 ≢ 0 → Stored v n base q (get_or heads q 0 - 1)
  pub onward : (q x y : ℕ) → Stored v n base q x → Stored v n base q y → x < y → y < b → x < get_or links y 0
  pub link : (q y : ℕ) → Stored v n base q y → y < b → get_or links y 0 ≢ 0 → Stored v n base q (get_or links y 0 - 1)

pub record Row (v : List ℕ) (n base i : ℕ) : Type 0 where
  pub few : n ≤ search_room
  pub values_all : length v ≡ search_room
  pub from : base ≤ i
  pub inside : i < n
  pub block : i < base + block_size
  pub value : get_or v i 0 ≢ 0

pub record BlockEnd (n base e : ℕ) : Type 0 where
  pub from : base ≤ e
  pub to : e ≤ n
  pub block : e ≤ base + block_size
  pub whole : (i : ℕ) → i < n → i < base + block_size → i < e
