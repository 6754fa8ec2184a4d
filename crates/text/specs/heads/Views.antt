-- What the code's answers say, in the readings' terms.
--   seen_head s r, bytes_head r == the reading of s that r stands for, and the bytes used, 0 where there is no reading
-- Assumes nothing.
use Rattle.std.specs.Prelude.{ℕ, List, drop, Option, None, Some}
use Rattle.text.specs.heads.Head.{Head}
use Rattle.text.specs.declared.heads.Head as code

abbrev pub seen_head : List ℕ → Option code.Head → Option (Head × List ℕ)
seen_head s (Some h) = Some (record { kind = h.kind; p = h.p; q = h.q; r = h.r; k = h.k }, drop h.used s)
seen_head s None = None

abbrev pub bytes_head : Option code.Head → ℕ
bytes_head (Some h) = h.used
bytes_head None = 0
