-- The table, filled number by number.
--   value_rows gens r f rows            == the rows that bound a value of weight r whose first number is f: that generator, and r - 1 rows of its stretch
--   Sizes                              == how many there are of each, for numbers up to 4096
--   TableSound i slots w               == a slot has a number below i, which has a weight; a weight above 9 stands for "no bound", and is at least 64
--   From start slots                   == a slot has a number from start on
--   ValuePlace gens d S slots rows w n == the value of n has no slot and n the weight 200, or its slot has a number whose rows and S span the generator n
--   Entering, Entered                  == what `enter` asks, and gives: the same with one number more, and numbers before it keep their place
-- Laws: laws/Enter. Assumes nothing.
use Rattle.std.specs.Prelude.{◌≡◌, ◌≢◌, ◌⊎◌, List, [], ◌∷◌, ◌++◌, ℕ, zero, suc, ◌+◌, ◌<◌, ◌≤◌, length, get_or}
use Rattle.linear.specs.Span.{Span}
use Rattle.linear.specs.Word.{word}
use Rattle.weights.specs.rank_rows.Stretch.{stretch, row_room}
use Rattle.weights.specs.Table.{slot_of}
use Rattle.residues.specs.Room.{search_room}
use Rattle.weights.specs.slots.Bucket.{slot_count}

abbrev pub value_rows : List ℕ → ℕ → ℕ → List ℕ → List ℕ
value_rows gens zero f rows = []
value_rows gens (suc m) f rows = get_or gens f 0 ∷ stretch m f rows

pub record Sizes (gens d slots rows w : List ℕ) : Type 0 where
  pub alike : length gens ≡ length d
  pub few : length d ≤ search_room
  pub slots_all : length slots ≡ slot_count
  pub rows_all : length rows ≡ row_room
  pub all : length w ≡ search_room

pub record TableSound (i : ℕ) (slots w : List ℕ) : Type 0 where
  pub first : (q f : ℕ) → get_or slots q 0 ≡ suc f → f < i
  pub some : (q f : ℕ) → get_or slots q 0 ≡ suc f → get_or w f 0 ≢ 0
  pub low : (n : ℕ) → get_or w n 0 ≤ 200
  pub gap : (n : ℕ) → 9 < get_or w n 0 → 64 ≤ get_or w n 0

pub record From (start : ℕ) (slots : List ℕ) : Type 0 where
  pub on : (q f : ℕ) → get_or slots q 0 ≡ suc f → start ≤ f

pub record Held (gens d S slots rows w : List ℕ) (n : ℕ) : Type 0 where
  pub at : ℕ
  pub slot : get_or slots (slot_of slots d (get_or d n 0)) 0 ≡ suc at
  pub spans : get_or w at 0 ≤ 9 → Span word (value_rows gens (get_or w at 0) at rows ++ S) (get_or gens n 0)

abbrev pub ValuePlace : List ℕ → List ℕ → List ℕ → List ℕ → List ℕ → List ℕ → ℕ → Type 0
ValuePlace gens d S slots rows w n = ((slot_of slots d (get_or d n 0) ≡ slot_count) × (get_or w n 0 ≡ 200)) ⊎ Held gens d S slots rows w n

pub record Entering (gens d : List ℕ) (i : ℕ) (slots rows w : List ℕ) : Type 0 where
  pub sizes : Sizes gens d slots rows w
  pub inside : i < length d
  pub sound : TableSound i slots w

pub record Entered (gens d S : List ℕ) (i : ℕ) (slots rows w slots' rows' w' : List ℕ) (r : ℕ) : Type 0 where
  pub low : r ≤ 200
  pub sound : TableSound (i + 1) slots' w'
  pub from : (start : ℕ) → start ≤ i → From start slots → From start slots'
  pub here : ValuePlace gens d S slots' rows' w' i
  pub before : (n : ℕ) → n < i → ValuePlace gens d S slots rows w n → ValuePlace gens d S slots' rows' w' n
  pub most : (t : ℕ) → r ≤ t → ((n : ℕ) → get_or w n 0 ≤ t) → (n : ℕ) → get_or w' n 0 ≤ t
  pub valued : get_or d i 0 ≢ 0 → ((n : ℕ) → get_or w n 0 ≢ 0 → get_or d n 0 ≢ 0) → (n : ℕ) → get_or w' n 0 ≢ 0 → get_or d n 0 ≢ 0
