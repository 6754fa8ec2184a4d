-- What the Formulae program prints of an input.
--   rows_at L i        == the rows of entry i in the listing
--   entry_part L i     == what is printed of entry i
--   entries_part L i n == of n entries from i on
--   formulae_program s == all that is printed: the first lines (`first_part`, first_part), then the entries
-- What Formulae prints is decided (docs/DECISIONS.md). The program writes it in parts (first_part, entry_parts); that these are all: `Theorems`. Assumes nothing.
use Rattle.std.specs.Prelude.{ℕ, zero, suc, ◌-◌, List, [], ◌++◌, drop}
use Rattle.kinds.specs.Refusal.{accepted, follow}
use Rattle.records.specs.lookup.Lookup.{lookup}
use Rattle.printing.specs.refusals.Pages.{answer_text}
use Rattle.formulae_text.specs.FormulaAnswers.{entry_formulae}
use Rattle.formulae_program.specs.first_part.Listed.{PlanListed, listed_input, first_part}

-- the record of an entry: k − ℓ numbers, then k rows
abbrev pub rows_at : PlanListed → ℕ → List ℕ
rows_at L i =
    let k = L.problem.k in
    let c = L.said in
    drop (k - c.ell) (lookup c.ell k c.shown i c.buffer)

abbrev pub entry_part : PlanListed → ℕ → List ℕ
entry_part L i =
    entry_formulae i L.problem.problem (rows_at L i)

unfoldable pub entries_part : PlanListed → (i n : ℕ) → List ℕ
entries_part L i zero = []
entries_part L i (suc n) = entry_part L i ++ entries_part L (suc i) n

unfoldable pub formulae_program : List ℕ → List ℕ
formulae_program s = answer_text (follow (listed_input s) λ L. accepted (first_part L ++ entries_part L 0 L.said.shown))
