-- The terms of a sum of selected generators, by their numbers.
--   named es row k   == those of the numbers es that the row names; the first is numbered k
--   sum_of_forms xs    == the sum of all of xs
--   terms gens sel v == the terms of v as a sum of the selected generators: of the part that is independent and spans them, the numbers that its row names
-- Document 02: "The yes now carries them as menu numbers, ascending. Only the dictionary_first part that is independent and spans all of the selection may
-- be used, so there is one such sum." The row is the one that a formula with the part's products has for v; so a formula's row is the mask of the terms.
-- Laws (proofs/laws/of_rows/Named, proofs/laws/of_rows/Terms):
--   terms_rising, terms_part   the terms ascend, and are of the part
--   terms_sum                  they sum to v, if v is a sum of selected generators at all
--   terms_only                 no other numbers of the part do
--   terms_members              selections with the same numbers have the same terms, whatever their order
--   row_terms, row_bit_law         of a formula, bit i of its row for v is 1 exactly if its product i is one of the terms
-- Assumes nothing.
use Rattle.std.specs.Prelude.{cond, List, [], ◌∷◌, ℕ, suc}
use Rattle.std.specs.Int.Bits.{bit_xor}
use Rattle.linear.specs.Bit.{bit}
use Rattle.linear.specs.Part.{part}
use Rattle.linear.specs.Entry.{chosen}
use Rattle.linear.specs.Word.{word}
use Rattle.bases.specs.rows.Rows.{row_of}

unfoldable pub named : List ℕ → ℕ → ℕ → List ℕ
named [] row k = []
named (e ∷ es) row k = let r = named es row (suc k) in cond (bit row k) (e ∷ r) r

unfoldable pub sum_of_forms : List ℕ → ℕ
sum_of_forms [] = 0
sum_of_forms (x ∷ xs) = bit_xor x (sum_of_forms xs)

unfoldable pub terms : (gens sel : List ℕ) → ℕ → List ℕ
terms gens sel v = let B = part word gens sel in named B (row_of (chosen word gens B) v) 0
