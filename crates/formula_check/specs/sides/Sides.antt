-- The masks of one side in a table by value (`words`), so that a mask is found among those after it at once.
--   mask_slots            == the slots of the table: a prime, so that masks are spread, and above 256, so that masks of eight bits never meet
--   mask_slot slots xs x  == the slot of the mask x, looked for from its remainder on; `mask_slots` where there is none
--   InTable slots xs x   == the mask x, if it has two ones or more and a slot, is in it
--   Entered xs i slots   == each mask from i on is in the table, and nothing else is
--   Entering xs i slots  == what `mask_adders` asks: mask i is there, and those after it are entered
--   MaskAdded ..         == what it gives: what mask i adds to the adders of those after it, and the table with it
--   Counting xs i slots s == the loop of `side_adders`: s is the adders of the masks from i on, which are entered
-- Laws: laws/Sides. Assumes nothing.
use Rattle.std.specs.Prelude.{◌≡◌, ◌≢◌, List, ℕ, suc, ◌+◌, ◌-◌, ◌*◌, ◌%◌, ◌<◌, ◌≤◌, length, get_or, drop}
use Rattle.kinds.specs.Limits.{most_products}
use Rattle.words.specs.tables.Table.{slot_from, tries}
use Rattle.forms.specs.Weight.{weight}
use Rattle.formula_check.specs.sums.Sums.{side_adders}

abbrev pub mask_slots : ℕ
mask_slots = 269

unfoldable pub mask_slot : (slots xs : List ℕ) → ℕ → ℕ
mask_slot slots xs x = slot_from mask_slots tries (x % mask_slots) slots xs x

abbrev pub InTable : (slots xs : List ℕ) → ℕ → Type 0
InTable slots xs x = 2 ≤ weight 64 x → mask_slot slots xs x < mask_slots → get_or slots (mask_slot slots xs x) 0 ≢ 0

pub record Entered (xs : List ℕ) (i : ℕ) (slots : List ℕ) : Type 0 where
  pub whole : length slots ≡ mask_slots
  pub numbers : (q f : ℕ) → get_or slots q 0 ≡ suc f → (i ≤ f) × (f < length xs)
  pub each : (j : ℕ) → i ≤ j → j < length xs → InTable slots xs (get_or xs j 0)

pub record Entering (xs : List ℕ) (i : ℕ) (slots : List ℕ) : Type 0 where
  pub there : i < length xs
  pub few : length xs ≤ most_products
  pub after : Entered xs (i + 1) slots

pub record MaskAdded (xs : List ℕ) (i : ℕ) (slots : List ℕ) (r : ℕ) : Type 0 where
  pub adds : r + side_adders (drop (i + 1) xs) ≡ side_adders (drop i xs)
  pub most : r ≤ 64
  pub table : Entered xs i slots

pub record Counting (xs : List ℕ) (i : ℕ) (slots : List ℕ) (s : ℕ) : Type 0 where
  pub within : i ≤ length xs
  pub is : s ≡ side_adders (drop i xs)
  pub most : s ≤ 64 * (length xs - i)
  pub table : Entered xs i slots
