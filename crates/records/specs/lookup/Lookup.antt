-- The look-up of an entry in a listing.
--   lookup ..   == the stretch of a listing that holds the entry with a number
-- Assumes nothing.
use Rattle.std.specs.Prelude.{◌&&◌, cond, List, [], ℕ, ◌+◌, ◌*◌, length, take, drop, ltb, leb}
use Rattle.records.specs.Length.{record_length}

-- Document 01: "An entry asked for by its number comes back as that stretch of the listing buffer; a number not below shown, k below ℓ, or a stretch
-- that runs past the buffer brings back an empty one."
unfoldable pub lookup : (ell k shown number : ℕ) (buffer : List ℕ) → List ℕ
lookup ell k shown number buffer =
    let size = record_length ell k in
    cond (ltb number shown && (leb ell k && leb (number * size + size) (length buffer))) (take size (drop (number * size) buffer)) []
