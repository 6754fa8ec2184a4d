-- The bucket of a sum. Any number of sums may have one bucket: no law but its range is used.
-- Assumes nothing.
use Rattle.std.specs.Prelude.{ℕ, ◌+◌, ◌*◌, ◌/◌, ◌%◌}

unfoldable pub bucket_of : ℕ → ℕ
bucket_of v = (v % 262144 * 2654435769 + v / 262144 % 262144 * 2246822519) / 16777216 % 65536
