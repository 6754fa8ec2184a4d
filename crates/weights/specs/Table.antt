-- A table of weights by value. A value is a residue other than 0; a slot has 0, or a number and one, and then stands for that number's value.
--   slot_of slots d v          == the slot of the value v, looked for from its own on; 16,384 where there is none
--   weight_of slots d w v      == the weight of v: that of the number in its slot, 0 where that is free, 200 where there is none
--   Slots slots d             == the slots are all there, and have numbers of d
--   Blank ..                  == what `fill` asks: slots and weights are all 0, and s has the rows of the generators of residue 0
--   TableFilled ..            == what it gives: the weights are bounds, of numbers that have a value, and none is above top, which is at most 200
-- Laws: laws/Seek, laws/Fill. Assumes nothing.
use Rattle.std.specs.Prelude.{◌≡◌, ◌≢◌, cond, List, ℕ, ◌-◌, ◌≤◌, eqb, length, get_or, replicate}
use Rattle.linear.specs.Basis.{basis_of}
use Rattle.linear.specs.Word.{word, is_zero}
use Rattle.words.specs.tables.Table.{slot_from, tries, Numbered}
use Rattle.residues.specs.children.Residues.{with_residue}
use Rattle.residues.specs.children.Weighed.{Weighed}
use Rattle.weights.specs.slots.Bucket.{bucket_of, slot_count}
use Rattle.residues.specs.Room.{search_room}
use Rattle.weights.specs.rank_rows.Stretch.{row_room}

unfoldable pub slot_of : List ℕ → List ℕ → ℕ → ℕ
slot_of slots d v = slot_from slot_count tries (bucket_of v) slots d v

unfoldable pub weight_at : List ℕ → List ℕ → ℕ → ℕ
weight_at slots w q = cond (eqb q slot_count) 200 (cond (is_zero (get_or slots q 0)) 0 (get_or w (get_or slots q 0 - 1) 0))

unfoldable pub weight_of : List ℕ → List ℕ → List ℕ → ℕ → ℕ
weight_of slots d w v = weight_at slots w (slot_of slots d v)

pub record Slots (slots d : List ℕ) : Type 0 where
  pub size : length slots ≡ slot_count
  pub number : Numbered slots d

pub record Blank (gens d : List ℕ) (start : ℕ) (dead s slots rows w : List ℕ) : Type 0 where
  pub alike : length gens ≡ length d
  pub few : length d ≤ search_room
  pub begin : start ≤ length d
  pub dead_all : length dead ≡ search_room
  pub basis : s ≡ basis_of word (with_residue 0 gens d)
  pub blank : slots ≡ replicate slot_count 0
  pub rows_all : length rows ≡ row_room
  pub none : w ≡ replicate search_room 0

pub record TableFilled (gens d : List ℕ) (start : ℕ) (dead table w : List ℕ) (top : ℕ) : Type 0 where
  pub weighed : Weighed gens d start dead w (weight_of table d w)
  pub slots : Slots table d
  pub most : (n : ℕ) → get_or w n 0 ≤ top
  pub low : top ≤ 200
  pub valued : (n : ℕ) → get_or w n 0 ≢ 0 → get_or d n 0 ≢ 0
