-- What it is to compute the targets with some of the generators.
--   Chosen gens xs      == each of xs is a generator (one may be named twice)
--   Computes targets xs == each target is a combination of xs
--   Rank gens targets r == r generators compute the targets, and no choice of fewer does
-- Document 01: "A choice of menu forms computes the targets if its span contains T". Assumes nothing.
use Rattle.std.specs.Prelude.{◌≡◌, ℕ, ◌≤◌, length}
use mathlib.Core.List.{List, Memᴰ}
use Rattle.linear.specs.Space.{Space}
use Rattle.linear.specs.Span.{Span}

abbrev pub Chosen : (S : Space) → List S.Vec → List S.Vec → Type 0
Chosen S gens xs = (x : S.Vec) → Memᴰ x xs → Memᴰ x gens

abbrev pub Computes : (S : Space) → List S.Vec → List S.Vec → Type 0
Computes S targets xs = (t : S.Vec) → Memᴰ t targets → Span S xs t

pub record Rank (S : Space) (gens targets : List S.Vec) (r : ℕ) : Type 0 where
  pub some : (xs : List S.Vec) × (length xs ≡ r) × Chosen S gens xs × Computes S targets xs
  pub least : (xs : List S.Vec) → Chosen S gens xs → Computes S targets xs → r ≤ length xs
