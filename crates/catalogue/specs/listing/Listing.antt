-- What a listing of the entries says, and what it writes.
--   records gens targets k == the records of all entries for k, in order
--   flat rs                == the words of records, one after the other
--   fitting n c w          == how many records of n words, out of c, fit into w words
--   SearchAsked            == what is asked of the generators, of the targets' basis and of k
--   Listed                 == the promise: the dimension of the targets, the number of entries up to the limit, how many are shown, and the buffer's content
--   ListedFrom             == the same, of all targets that have that basis
-- The entries are those of the catalogue: linear's `Theorems` shows that none is missing and none comes twice. With the limit 2 ^ 64 - 1 all are counted: `found_All`
-- (proofs/laws/of_listing/Listing). Assumes nothing.
use Rattle.std.specs.Prelude.{◌≡◌, List, [], ◌∷◌, ◌++◌, map, ℕ, zero, suc, ◌+◌, ◌*◌, ◌/◌, ◌≤◌, min, length, take, drop}
use Rattle.linear.specs.Basis.{basis_of, dim}
use Rattle.linear.specs.Entry.{entries, space}
use Rattle.linear.specs.Word.{word}
use Rattle.bases.specs.Basis.{Valid, Holds}
use Rattle.bases.specs.declared.Basis.{Basis}
use Rattle.catalogue.specs.declared.listing.Listing.{Listing}
use Rattle.kinds.specs.Limits.{most_generators}
use Rattle.records.specs.Length.{record_length}

-- Document 01: "Each is recorded as the extension ascending, then the k rows of its reduced basis".
--   | extension: k − ℓ numbers | basis: k rows |
unfoldable pub records : List ℕ → List ℕ → ℕ → List (List ℕ)
records gens targets k = map (λ es. es ++ space word gens targets es) (entries word gens targets k)

unfoldable pub flat : List (List ℕ) → List ℕ
flat [] = []
flat (r ∷ rs) = r ++ flat rs

-- Document 01: "Shown is the smaller of found and w divided by the record's length .., rounded down. A record of length 0 needs no room: shown is then found."
unfoldable pub fitting : ℕ → ℕ → ℕ → ℕ
fitting zero c w = c
fitting (suc n) c w = min c (w / suc n)

pub record SearchAsked (gens : List ℕ) (b : Basis) (k : ℕ) : Type 0 where
  pub small : length gens ≤ most_generators
  pub valid : Valid b
  pub near : k ≤ b.len + 6

-- Document 01: "The first shown records fill the buffer from its start and every later word keeps its value."
pub record Listed (gens targets : List ℕ) (k limit : ℕ) (before after : List ℕ) (r : Listing) : Type 0 where
  pub ell : r.ell ≡ dim word targets
  pub found : r.found ≡ min limit (length (entries word gens targets k))
  pub shown : r.shown ≡ fitting (record_length (dim word targets) k) r.found (length before)
  pub buffer : after ≡ flat (take r.shown (records gens targets k)) ++ drop (r.shown * record_length (dim word targets) k) before

-- the entries are those of the targets' space: any targets that span it have them
abbrev pub ListedFrom : List ℕ → Basis → (k limit : ℕ) (before after : List ℕ) → Listing → Type 0
ListedFrom gens b k limit before after r = (targets : List ℕ) → Holds (basis_of word targets) b → Listed gens targets k limit before after r
