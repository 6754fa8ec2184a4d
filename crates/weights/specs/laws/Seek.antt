-- The slot of a value, by the laws of tables (`words`).
--   slot_below   a slot in use is one of the table
--   slot_owner   a number in it has the value
--   slot_kept    it stays where a free slot is written, unless it is free itself
--   slot_own     and it stays where a number of the value is written into it
--   slot_sought  it is what `seek` finds
--   weight_none, weight_free, weight_number                   the weight by the slot
--   read_none, read_free, read_number                         the same as `weight_of` gives it
-- Assumes nothing.
use Rattle.std.specs.Prelude.{◌≡◌, ◌≢◌, Bool, List, ℕ, suc, ◌-◌, ◌<◌, ◌≤◌, length, get_or, set}
use Rattle.std.proofs.Common.{sym, ◌∙◌, subst, arith, eq-eqb, ne_eqb}
use Rattle.std.proofs.Math.Path.{ap}
use Rattle.std.proofs.Math.Bool.{cond}
use Rattle.linear.specs.Word.{is_zero}
use Rattle.weights.specs.slots.Bucket.{bucket_of, slot_count}
use Rattle.residues.proofs.laws.of_children.Known.{is_zero_of}
use Rattle.words.specs.tables.Table.{slot_from, tries}
use Rattle.words.specs.tables.laws.Seek as table
use Rattle.weights.specs.Table.{slot_of, weight_at, weight_of}

bucket_below : (v : ℕ) → bucket_of v < slot_count
unfolding bucket_of
bucket_below v = omega arith

pub slot_below : (slots : List ℕ) → length slots ≡ slot_count → (q : ℕ) → get_or slots q 0 ≢ 0 → q ≢ slot_count
slot_below slots size q n e = omega (arith, table.in_table slot_count slots size q n)

pub slot_owner : (slots d : List ℕ) (v : ℕ) → length slots ≡ slot_count → (f : ℕ) → get_or slots (slot_of slots d v) 0 ≡ suc f → get_or d f 0 ≡ v
unfolding slot_of
slot_owner slots d v size f e = table.slot_owner slot_count slots d v size tries (bucket_of v) f e

module _ (slots : List ℕ) (b x : ℕ) (free : get_or slots b 0 ≡ 0) (d : List ℕ) (v : ℕ) where
  pub slot_kept : (slot_of slots d v < slot_count → get_or slots (slot_of slots d v) 0 ≢ 0) → slot_of (set slots b x) d v ≡ slot_of slots d v
  unfolding slot_of
  slot_kept h = table.slot_kept slot_count slots b x free d v tries (bucket_of v) (bucket_below v) h

  pub slot_own : b < length slots → b < slot_count → get_or d (x - 1) 0 ≡ v → slot_of slots d v ≡ b → slot_of (set slots b x) d v ≡ b
  unfolding slot_of
  slot_own within inside own e = table.slot_own slot_count slots b x free d v within inside own tries (bucket_of v) e

pub slot_sought : (slots d : List ℕ) (v from r : ℕ) → length slots ≡ slot_count → from ≡ bucket_of v
    → (r ≡ slot_from (length slots) tries from slots d v) × (r ≤ length slots) → (r ≡ slot_of slots d v) × (r ≤ slot_count)
unfolding slot_of
slot_sought slots d v from r size e p =
    subst (λ (n : ℕ). (r ≡ slot_from n tries (bucket_of v) slots d v) × (r ≤ n)) size
    (p.0 ∙ ap (λ (q : ℕ). slot_from (length slots) tries q slots d v) e, p.1)

-- ---- the weight of a slot
module _ (slots d w : List ℕ) (v q : ℕ) (e : slot_of slots d v ≡ q) where
  pub weight_none : q ≡ slot_count → weight_of slots d w v ≡ 200
  unfolding weight_of weight_at
  weight_none p =
      ap (λ (r : ℕ). weight_at slots w r) e
      ∙ ap (λ (b : Bool). cond b 200 (cond (is_zero (get_or slots q 0)) 0 (get_or w (get_or slots q 0 - 1) 0))) (eq-eqb q slot_count p)

  slot_of_law : q ≢ slot_count → weight_of slots d w v ≡ cond (is_zero (get_or slots q 0)) 0 (get_or w (get_or slots q 0 - 1) 0)
  unfolding weight_of weight_at
  slot_of_law n =
      ap (λ (r : ℕ). weight_at slots w r) e
      ∙ ap (λ (b : Bool). cond b 200 (cond (is_zero (get_or slots q 0)) 0 (get_or w (get_or slots q 0 - 1) 0))) (ne_eqb q slot_count n)

  pub weight_free : q ≢ slot_count → get_or slots q 0 ≡ 0 → weight_of slots d w v ≡ 0
  weight_free n z = slot_of_law n ∙ ap (λ (b : Bool). cond b 0 (get_or w (get_or slots q 0 - 1) 0)) (ap is_zero z)

  pub weight_number : q ≢ slot_count → get_or slots q 0 ≢ 0 → weight_of slots d w v ≡ get_or w (get_or slots q 0 - 1) 0
  weight_number n z = slot_of_law n ∙ ap (λ (b : Bool). cond b 0 (get_or w (get_or slots q 0 - 1) 0)) (is_zero_of (get_or slots q 0) z)

-- what `weight_of` gives, by what it finds
module _ (slots d w : List ℕ) (v q : ℕ) (e : q ≡ slot_of slots d v) (few : (n : ℕ) → get_or w n 0 ≤ 255) where
  pub read_none : q ≡ slot_count → (200 ≡ weight_of slots d w v) × (◌≤◌ 200 255)
  read_none p = (sym (weight_none slots d w v q (sym e) p), omega arith)

  pub read_free : q ≢ slot_count → get_or slots q 0 ≡ 0 → (0 ≡ weight_of slots d w v) × (◌≤◌ 0 255)
  read_free n z = (sym (weight_free slots d w v q (sym e) n z), omega arith)

  pub read_number : q ≢ slot_count → get_or slots q 0 ≢ 0 → (get_or w (get_or slots q 0 - 1) 0 ≡ weight_of slots d w v) × (get_or w (get_or slots q 0 - 1) 0 ≤ 255)
  read_number n z = (sym (weight_number slots d w v q (sym e) n z), few (get_or slots q 0 - 1))
