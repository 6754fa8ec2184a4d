-- Short relations among the values of numbers: three or four values whose sum is 0, though the generators' own sum is not in the span of s. They are found by
-- joining the sums of two values: those of a block's pairs (i, j), in a table, with those of the later pairs (g, h). Three values are four of which the last,
-- h, is the number n of values, which has the value 0.
--   Relation gens s v n i j g h == i < j < g < h are such numbers
--   Wanted lines n h            == where only three are wanted, h is n
--   Passed u i j g h            == the join comes to these numbers before the place u: blocks ascending, in a block g, then h ascending, then pairs descending
--   Here u i j g h              == they are the numbers at the place u
--   Sized .., Tables ..         == the lengths of what is lent; and the table of the pairs of a block
--   Placed gens v u heads links == what a place is: the table of its block, and, unless the last block is passed, a pair in it and later numbers
--   later gens u                == a number that falls from place to place: what is left of the blocks, of the rows g, of the numbers h, of the chain
--   FirstPlace .., NextPlace .. == no relation is passed; none but the one at u was passed on the way from u to u'
-- So whoever goes from place to place comes to every relation. Assumes nothing.
use Rattle.std.specs.Prelude.{◌≡◌, ◌≢◌, ◌⊎◌, Bool, true, List, ℕ, suc, ◌+◌, ◌-◌, ◌*◌, ◌<◌, ◌≤◌, length, get_or}
use Rattle.std.specs.Int.Bits.{bit_xor}
use Rattle.linear.specs.Basis.{reduce}
use Rattle.linear.specs.Word.{word}
use Rattle.relations.specs.pairs.Bucket.{bucket_of}
use Rattle.relations.specs.pairs.Pairs.{block_size, link_room, head_room, second_of, place_of, Stored, Falling, Chained, Headed}
use Rattle.relations.specs.declared.Place.{Place}
use Rattle.residues.specs.Room.{search_room}

pub record Relation (gens s v : List ℕ) (n i j g h : ℕ) : Type 0 where
  pub ij : i < j
  pub jg : j < g
  pub gh : g < h
  pub hn : h ≤ n
  pub first : get_or v i 0 ≢ 0
  pub second : get_or v j 0 ≢ 0
  pub third : get_or v g 0 ≢ 0
  pub fourth : (h ≡ n) ⊎ (get_or v h 0 ≢ 0)
  pub sum : bit_xor (get_or v i 0) (get_or v j 0) ≡ bit_xor (get_or v g 0) (get_or v h 0)
  pub free : reduce word s (bit_xor (bit_xor (get_or gens i 0) (get_or gens j 0)) (bit_xor (get_or gens g 0) (get_or gens h 0))) ≢ 0

abbrev pub Wanted : Bool → ℕ → ℕ → Type 0
Wanted lines n h = lines ≡ true → h ≡ n

abbrev pub Passed : Place → ℕ → ℕ → ℕ → ℕ → Type 0
Passed u i j g h =
    (i < u.base) ⊎ ((i < u.base + block_size) × ((g < u.g) ⊎ ((g ≡ u.g) × ((h < u.h) ⊎ ((h ≡ u.h) × (u.e ≤ place_of u.base i j))))))

pub record Here (u : Place) (i j g h : ℕ) : Type 0 where
  pub from : u.base ≤ i
  pub below : i < u.base + block_size
  pub pair : u.e ≡ suc (place_of u.base i j)
  pub third : u.g ≡ g
  pub fourth : u.h ≡ h

pub record Sized (gens v : List ℕ) (heads links : List ℕ) : Type 0 where
  pub few : length gens ≤ search_room
  pub values_all : length v ≡ search_room
  pub none : (i : ℕ) → length gens ≤ i → get_or v i 0 ≡ 0
  pub heads_all : length heads ≡ head_room
  pub links_all : length links ≡ link_room
  pub falls : Falling links

pub record Tables (gens v : List ℕ) (base : ℕ) (heads links : List ℕ) : Type 0 where
  pub sizes : Sized gens v heads links
  pub chained : base < length gens → Chained v (length gens) base links
  pub headed : base < length gens → Headed v (length gens) base heads

-- the pair's place is below the pointer e, which is one of the chain of the sum of g and h
pub record Placed (gens v : List ℕ) (u : Place) (heads links : List ℕ) : Type 0 where
  pub tables : Tables gens v u.base heads links
  pub pair : u.base < length gens → u.e ≢ 0
  pub stored : u.base < length gens → Stored v (length gens) u.base (bucket_of (bit_xor (get_or v u.g 0) (get_or v u.h 0))) (u.e - 1)
  pub before : u.base < length gens → second_of (u.e - 1) < u.g
  pub third : u.base < length gens → u.g < u.h
  pub fourth : u.base < length gens → u.h ≤ length gens

-- the numbers are at most 4,096, a pointer at most 32,768: so each factor is above what stands after it
abbrev pub later : List ℕ → Place → ℕ
later gens u = (((length gens - u.base) * 5000 + (length gens - u.g)) * 5000 + (suc (length gens) - u.h)) * 40000 + u.e

pub record FirstPlace (gens s v : List ℕ) (lines : Bool) (start : ℕ) (u : Place) (heads links : List ℕ) : Type 0 where
  pub placed : Placed gens v u heads links
  pub none : (i j g h : ℕ) → start ≤ i → Wanted lines (length gens) h → Relation gens s v (length gens) i j g h → ¬ Passed u i j g h

pub record NextPlace (gens s v : List ℕ) (lines : Bool) (u u' : Place) (heads links : List ℕ) : Type 0 where
  pub placed : Placed gens v u' heads links
  pub none : (i j g h : ℕ) → Wanted lines (length gens) h → Relation gens s v (length gens) i j g h → Passed u' i j g h
      → Passed u i j g h ⊎ Here u i j g h
  pub falls : later gens u' < later gens u
