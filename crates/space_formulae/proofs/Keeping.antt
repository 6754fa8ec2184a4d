-- record-length: the length of a formula's record.
-- Assumes nothing.
use mathlib.Core.Path.{◌≡◌, sym, ap₂, ◌∙◌}
use mathlib.Core.List.{List, map}
use Prim.Native.Nat.{ℕ, ◌+◌}
use lib.ListN.{length, length-append, length-map}
use Rattle.bases.specs.rows.Rows.{row_of}
use Rattle.choices.specs.declared.Choice.{Choice}
use Rattle.choices.specs.Choice.{numbers_of, forms_of, Whole, record_of}
use Rattle.choices.specs.laws.Writing.{numbers_length}

pub record_length_law : (c : Choice) (targets : List ℕ) → Whole c → length (record_of c targets) ≡ c.len + length targets
record_length_law c targets W =
    length-append (numbers_of c) (map (row_of (forms_of c)) targets) ∙ ap₂ ◌+◌ (sym (numbers_length c W)) (length-map targets (row_of (forms_of c)))
