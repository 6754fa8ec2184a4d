-- lines_of line f i l == the lines of the members es of l, each with f es, numbered from i on
-- Assumes nothing.
use Rattle.std.specs.Prelude.{List, [], ◌∷◌, ◌++◌, ℕ, suc}

unfoldable pub lines_of : (ℕ → List ℕ → List ℕ → List ℕ) → (List ℕ → List ℕ) → ℕ → List (List ℕ) → List ℕ
lines_of line f i [] = []
lines_of line f i (es ∷ l) = line i es (f es) ++ lines_of line f (suc i) l
