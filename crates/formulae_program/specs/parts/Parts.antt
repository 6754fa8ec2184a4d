-- What the Formulae program prints, part by part: the first lines, then the entries.
--   part_count x                 == how many parts there are after `start` has said x
--   part_text x g t listing i    == part i, the buffers holding g, t and listing; behind the last part nothing
--   part_texts x g t listing i n == n parts from i on
--   parts_text x g t listing     == all parts
-- That these are what the program prints: `parts_are_all`. Assumes nothing.
use Rattle.std.specs.Prelude.{ℕ, zero, suc, List, [], ◌++◌}
use Rattle.formulae_program.specs.declared.plan.Started.{Started}
use Rattle.formulae_program.specs.declared.plan.Started.TheVariants as started
use Rattle.formulae_program.specs.entry_parts.EntryPages.{plan_text}
use Rattle.formulae_program.specs.first_part.Starts.{first_text}

abbrev pub part_count : Started → ℕ
part_count (started.Refused e) = 1
part_count (started.Listed x) = suc x.shown

abbrev pub part_text : Started → (g t listing : List ℕ) → ℕ → List ℕ
part_text x g t listing zero = first_text x
part_text (started.Refused e) g t listing (suc i) = []
part_text (started.Listed x) g t listing (suc i) = plan_text x g t listing i

unfoldable pub part_texts : Started → (g t listing : List ℕ) → (i n : ℕ) → List ℕ
part_texts x g t listing i zero = []
part_texts x g t listing i (suc n) = part_text x g t listing i ++ part_texts x g t listing (suc i) n

abbrev pub parts_text : Started → (g t listing : List ℕ) → List ℕ
parts_text x g t listing = part_texts x g t listing 0 (part_count x)
