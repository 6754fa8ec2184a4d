-- The limits on what is handed in. Document 01 refuses by 3 where "n × m exceeds 64" or "list has p or r above 64", by 4 a menu of "more than 4,095 forms",
-- by 8 where k "exceeds 64 where a formula is sent". Document 02: "Every menu form now carries a cost from 0 to 65,535".
-- Assumes nothing.
use Rattle.std.specs.Prelude.{ℕ}

-- of a form: a_i b_j, or the bits of a list's forms
abbrev pub most_coordinates : ℕ
most_coordinates = 64

-- of a map: its outputs, or a list's targets
abbrev pub most_targets : ℕ
most_targets = 64

-- of a formula
abbrev pub most_products : ℕ
most_products = 64

-- of a menu
abbrev pub most_generators : ℕ
most_generators = 4095

-- of a menu form's cost
abbrev pub most_cost : ℕ
most_cost = 65535

-- of a generator's cost: the bits of 65,535
abbrev pub cost_bits : ℕ
cost_bits = 16
