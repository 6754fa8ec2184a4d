-- Catalogue on numbers.
--   Catalogued            == ℓ, found, shown, and the buffer's content
--   entry_listing x k old  == what is said of the problem x for k, in a buffer that holds old
--   catalogue_of x k old   == refused by 8, or that
--   catalogue ..          == refused by a number of document 01's list (2 to 8), or that
--   seen_catalogue r after == what the code's answer r says, the buffer holding `after`
--   catalogue_numbers r    == its numbers: the refusal's, ℓ, found and shown; `catalogue_values`, the same of what is accepted
--   lent_catalogue a old   == the buffer's content at exit
-- What it means: theorems, catalogue_and_rank. Assumes nothing.
use Rattle.std.specs.Prelude.{List, [], ◌∷◌, ◌++◌, ℕ, ◌+◌, ◌*◌, length, take, drop, ltb}
use Rattle.kinds.specs.Refusal.{Answer, refused, accepted, refuse, follow}
use Rattle.kinds.specs.Numbers.{refusal_numbers, answer_numbers}
use Rattle.problems.specs.Problem.{Problem, posed}
use Rattle.linear.specs.Basis.{dim}
use Rattle.linear.specs.Entry.{entries}
use Rattle.linear.specs.Word.{word}
use Rattle.catalogue.specs.listing.Listing.{records, flat, fitting}
use Rattle.catalogue.specs.declared.Catalogued.{Catalogued as Reply}
use Rattle.catalogue.specs.declared.Catalogued.TheVariants as reply
use Rattle.records.specs.Length.{record_length}

pub record Catalogued : Type 0 where
  pub ell : ℕ
  pub found : ℕ
  pub shown : ℕ
  pub buffer : List ℕ

-- Document 01: "With room for w words, the Catalogue replies with found, the number of all entries for k, and with shown. Shown is the smaller of
-- found and w divided by the record's length .. The first shown records fill the buffer from its start and every later word keeps its value."
unfoldable pub entry_listing : Problem → ℕ → List ℕ → Catalogued
entry_listing x k old =
    let found = length (entries word x.generators x.targets k) in
    let size = record_length (dim word x.targets) k in
    let shown = fitting size found (length old) in
    record {
      ell = dim word x.targets;
      found = found;
      shown = shown;
      buffer = flat (take shown (records x.generators x.targets k)) ++ drop (shown * size) old;
    }

-- refusal 8: "k exceeds ℓ + 6 in a Catalogue"
unfoldable pub catalogue_of : Problem → ℕ → List ℕ → Answer Catalogued
catalogue_of x k old = refuse 8 (ltb (dim word x.targets + 6) k) (accepted (entry_listing x k old))

-- of the problem handed in: refusals 2 to 7 come first
unfoldable pub catalogue : (number p q r k : ℕ) (gs ts old : List ℕ) → Answer Catalogued
catalogue number p q r k gs ts old =
    follow (posed number p q r gs ts []) λ x. catalogue_of x k old

-- the answer of the code
abbrev pub seen_catalogue : Reply → List ℕ → Answer Catalogued
seen_catalogue (reply.Refused e) after = refused e
seen_catalogue (reply.Entries l f s) after = accepted (record { ell = l; found = f; shown = s; buffer = after })

-- "A refusal is its number, every other number of the reply 0."
abbrev pub catalogue_numbers : Reply → List ℕ
catalogue_numbers (reply.Refused e) = refusal_numbers 3 e
catalogue_numbers (reply.Entries l f s) = answer_numbers (l ∷ f ∷ s ∷ [])

abbrev pub catalogue_values : Catalogued → List ℕ
catalogue_values x = x.ell ∷ x.found ∷ x.shown ∷ []

-- "any other refused call leaves its buffers unchanged"
abbrev pub lent_catalogue : Answer Catalogued → List ℕ → List ℕ
lent_catalogue (refused e) old = old
lent_catalogue (accepted x) old = x.buffer
