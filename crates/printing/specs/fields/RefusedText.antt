-- The line of a refusal.
--   refused_text n == `refused`, a space, n
-- Document 01: "A refusal prints one line, `refused`, a space and its number below, as `refused 4`." Assumes nothing.
use Rattle.std.specs.Prelude.{ℕ, List, [], ◌∷◌, ◌++◌}
use Rattle.text.specs.Line.{LF}
use Rattle.printing.specs.Print.{number_text}

-- `refused` and a space
abbrev pub refused_name : List ℕ
refused_name = 114 ∷ 101 ∷ 102 ∷ 117 ∷ 115 ∷ 101 ∷ 100 ∷ 32 ∷ []

unfoldable pub refused_text : ℕ → List ℕ
refused_text n = refused_name ++ number_text n ++ (LF ∷ [])
