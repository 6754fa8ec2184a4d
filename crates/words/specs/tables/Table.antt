-- A table of numbers by value, with open addressing. A slot has 0, or a number and one, and then stands for that number's value in a list d.
--   following size q             == the slot after q, in a table of `size` slots: after the last comes the first
--   slot_from size fuel q slots d v == from the slot q on the first that is free or has a number of the value v; `size` where as many as fuel are tried in vain
--   tries                        == how many are tried
--   Numbered slots d             == the slots have numbers of d
-- Laws: laws/Seek. Assumes nothing.
use Rattle.std.specs.Prelude.{cond, ◌||◌, List, ℕ, zero, suc, ◌+◌, ◌-◌, ◌≤◌, eqb, length, get_or}
use Rattle.linear.specs.Word.{is_zero}

abbrev pub tries : ℕ
tries = 64

unfoldable pub following : (size q : ℕ) → ℕ
following size q = cond (eqb (q + 1) size) 0 (q + 1)

unfoldable pub slot_from : (size fuel q : ℕ) (slots d : List ℕ) (v : ℕ) → ℕ
slot_from size zero q slots d v = size
slot_from size (suc fuel) q slots d v =
    cond (is_zero (get_or slots q 0) || eqb (get_or d (get_or slots q 0 - 1) 0) v) q (slot_from size fuel (following size q) slots d v)

abbrev pub Numbered : (slots d : List ℕ) → Type 0
Numbered slots d = (q : ℕ) → get_or slots q 0 ≤ length d
