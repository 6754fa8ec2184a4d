-- The rows of a formula are what questions on its products show: the definition. The theorems on it are in proofs/laws/of_rows_shown/Theorems.
--   RowsShown   == `is_sum` shows each target over the products, and bit i of its row is 1 exactly if product i is one of the terms
-- Assumes nothing.
use Rattle.std.specs.Prelude.{◌≡◌, ◌↔◌, true, ℕ, ◌<◌, ◌≤◌, length, get_or}
use mathlib.Core.List.{List, Memᴰ}
use Rattle.kinds.specs.Refusal.{accepted}
use Rattle.problems.specs.Problem.{Problem}
use Rattle.words.specs.Buffers.{filled}
use Rattle.linear.specs.Bit.{bit}
use Rattle.linear.specs.Entry.{chosen}
use Rattle.linear.specs.Word.{word}
use Rattle.bases.specs.rows.Rows.{row_of}
use Rattle.selections.specs.Selections.{is_sum}
use Rattle.selections.specs.on_forms.Shown.{sum_of}

abbrev pub RowsShown : (number p q r : ℕ) (gs ts : List ℕ) → Problem → List ℕ → Type 0
RowsShown number p q r gs ts x es =
    (t : ℕ) → Memᴰ t x.targets → (room : List ℕ) → length es ≤ length room
    → (us : List ℕ) × (is_sum number p q r gs ts es t room ≡ accepted (sum_of (length us) (filled us room)))
    × ((i : ℕ) → i < length es → (bit (row_of (chosen word x.generators es) t) i ≡ true) ↔ Memᴰ (get_or es i 0) us)
