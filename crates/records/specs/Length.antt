-- record_length ell k == how many words the record of an entry for k has, ell the dimension of the targets
-- Document 01: "the record's length, here 2k − ℓ". Assumes nothing.
use Rattle.std.specs.Prelude.{ℕ, ◌+◌, ◌-◌}

--   | extension: k − ℓ numbers | basis: k rows |
abbrev pub record_length : ℕ → ℕ → ℕ
record_length ell k = (k - ell) + k
