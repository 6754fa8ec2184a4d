-- The place of a value in a table.
--   slot_count  == the number of slots
--   bucket_of v == where the value v is looked for first, a number below 16,384; nothing else about it matters
-- Assumes nothing.
use Rattle.std.specs.Prelude.{ℕ, ◌+◌, ◌*◌, ◌/◌, ◌%◌}

-- the slots of the table
abbrev pub slot_count : ℕ
slot_count = 16384

unfoldable pub bucket_of : ℕ → ℕ
bucket_of v = (v % 262144 * 2654435769 + v / 262144 % 262144 * 2246822519) / 134217728 % slot_count
