-- What the code's answers say, in the readings' terms: a number of bytes used stands for the text after them.
--   seenX s r == the reading of s that the answer r stands for
--   bytesX r  == the bytes used, 0 where there is no reading
-- Assumes nothing.
use Rattle.std.specs.Prelude.{ℕ, ◌+◌, List, take, drop, Option, None, Some}

abbrev pub seen_cut : List ℕ → Option ℕ → Option (List ℕ × List ℕ)
seen_cut s (Some e) = Some (take e s, drop (e + 1) s)
seen_cut s None = None

abbrev pub bytes_cut : Option ℕ → ℕ
bytes_cut (Some e) = e + 1
bytes_cut None = 0

abbrev pub seen_used : List ℕ → Option ℕ → Option (List ℕ)
seen_used s (Some u) = Some (drop u s)
seen_used s None = None

abbrev pub bytes_used : Option ℕ → ℕ
bytes_used (Some u) = u
bytes_used None = 0

abbrev pub seen_field : List ℕ → Option (ℕ × ℕ) → Option (ℕ × List ℕ)
seen_field s (Some f) = Some (f.0, drop f.1 s)
seen_field s None = None

abbrev pub bytes_field : Option (ℕ × ℕ) → ℕ
bytes_field (Some f) = f.1
bytes_field None = 0
