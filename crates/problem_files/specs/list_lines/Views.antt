-- What the code's answers say, in the readings' terms: a number of bytes used stands for the text after them.
--   seen_role s r, bytes_role r == the reading of a line of s that the answer r stands for, and the bytes used, 0 where there is no reading
--   seen_roles s xs ys r       == the reading of s that the answer r stands for, with the forms xs and the costs ys
-- Assumes nothing.
use Rattle.std.specs.Prelude.{ℕ, List, drop, Option, None, Some}

abbrev pub seen_role : List ℕ → Option (ℕ × ℕ × ℕ) → Option ((ℕ × ℕ) × List ℕ)
seen_role s (Some l) = Some ((l.0, l.1), drop l.2 s)
seen_role s None = None

abbrev pub bytes_role : Option (ℕ × ℕ × ℕ) → ℕ
bytes_role (Some l) = l.2
bytes_role None = 0

abbrev pub seen_roles : (s xs ys : List ℕ) → Option ℕ → Option ((List ℕ × List ℕ) × List ℕ)
seen_roles s xs ys (Some u) = Some ((xs, ys), drop u s)
seen_roles s xs ys None = None
