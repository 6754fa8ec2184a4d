-- The join on its way, place by place. A place is here the plain numbers base, g, h and the pointer e.
--   PassedAt base g h e i j a b == the join comes to the numbers i j a b before the place (`Passed`, over plain numbers)
--   later_at n base g h e        == a number that falls from place to place (`later`, over plain numbers)
--   Onward .. lines p q         == on the way from p to q no relation that is wanted is passed, and q is not before p
--   Asked .. base g h e ..      == what is asked at a place: the table of its block, and a pointer that is 0 or one of the chain of the sum of g and h
--   Begins lines n g r          == every number after g that is wanted is after r, which is not before g
--   Found .. base g h e         == what a match is: a stored pair before g, and h after g
--   RowFound, BlockFound        == the next match in a row, in a block; or none, its e is 0
--   Sought                      == the next match in all, or behind the last block
-- Laws: laws/Steps, laws/Places. Assumes nothing.
use Rattle.std.specs.Prelude.{◌≡◌, ◌≢◌, ◌⊎◌, Bool, false, List, ℕ, suc, ◌+◌, ◌-◌, ◌*◌, ◌<◌, ◌≤◌, length, get_or}
use Rattle.std.specs.Int.Bits.{bit_xor}
use Rattle.relations.specs.Relations.{Relation, Wanted, Tables, Placed}
use Rattle.relations.specs.pairs.Bucket.{bucket_of}
use Rattle.relations.specs.pairs.Pairs.{block_size, second_of, place_of, Stored}
use Rattle.relations.specs.declared.Place.{Place}

abbrev pub PassedAt : (base g h e i j a b : ℕ) → Type 0
PassedAt base g h e i j a b = (i < base) ⊎ ((i < base + block_size) × ((a < g) ⊎ ((a ≡ g) × ((b < h) ⊎ ((b ≡ h) × (e ≤ place_of base i j))))))

abbrev pub later_at : (n base g h e : ℕ) → ℕ
later_at n base g h e = (((n - base) * 5000 + (n - g)) * 5000 + (suc n - h)) * 40000 + e

pub record Onward (gens s v : List ℕ) (lines : Bool) (base g h e base' g' h' e' : ℕ) : Type 0 where
  pub only : (i j a b : ℕ) → Wanted lines (length gens) b → Relation gens s v (length gens) i j a b → PassedAt base' g' h' e' i j a b
      → PassedAt base g h e i j a b
  pub falls : later_at (length gens) base' g' h' e' ≤ later_at (length gens) base g h e

pub record Asked (gens v : List ℕ) (base g h e : ℕ) (heads links : List ℕ) : Type 0 where
  pub tables : Tables gens v base heads links
  pub high : h ≤ suc (length gens)
  pub stored : base < length gens → e ≢ 0 → Stored v (length gens) base (bucket_of (bit_xor (get_or v g 0) (get_or v h 0))) (e - 1)
  pub from : g < length gens → g ≤ h
  pub later : base < length gens → e ≢ 0 → g < h

pub record Begins (lines : Bool) (n g r : ℕ) : Type 0 where
  pub high : r ≤ n
  pub from : g < n → g ≤ r
  pub before : (h : ℕ) → Wanted lines n h → g < h → r < h

pub record Found (gens v : List ℕ) (base g h e : ℕ) : Type 0 where
  pub stored : Stored v (length gens) base (bucket_of (bit_xor (get_or v g 0) (get_or v h 0))) (e - 1)
  pub before : second_of (e - 1) < g
  pub later : g < h
  pub high : h ≤ length gens

pub record RowFound (gens s v : List ℕ) (base g h e : ℕ) (r : Place) : Type 0 where
  pub block : r.base ≡ base
  pub third : r.g ≡ g
  pub found : r.e ≢ 0 → Found gens v base g r.h r.e
  pub end : r.e ≡ 0 → length gens < r.h
  pub onward : Onward gens s v false base g h e base g r.h r.e

pub record BlockFound (gens s v : List ℕ) (lines : Bool) (base g h e : ℕ) (r : Place) : Type 0 where
  pub block : r.base ≡ base
  pub found : r.e ≢ 0 → Found gens v base r.g r.h r.e
  pub end : r.e ≡ 0 → length gens ≤ r.g
  pub onward : Onward gens s v lines base g h e base r.g r.h r.e

pub record Sought (gens s v : List ℕ) (lines : Bool) (u u' : Place) (heads links : List ℕ) : Type 0 where
  pub placed : Placed gens v u' heads links
  pub onward : Onward gens s v lines u.base u.g u.h u.e u'.base u'.g u'.h u'.e
