-- What an accepted Catalogue and an accepted Rank mean: the definitions. The theorems on them are in proofs/laws/of_catalogue_and_rank/Theorems.
--   entry_record     == the record of an entry, by its extension
--   CatalogueMeans   == none missing, none twice, and what is shown
--   RankMeans        == none fewer, none cheaper, and what is written
-- Assumes nothing.
use Rattle.std.proofs.Math.Path.{◌≡◌}
use Rattle.std.specs.Prelude.{◌⊎◌, ◌↔◌, ℕ, ◌+◌, ◌-◌, ◌*◌, ◌^◌, ◌<◌, ◌≤◌, length, take, drop, get_or}
use mathlib.Core.List.{List, [], ◌++◌, map, Memᴰ}
use Rattle.words.specs.Buffers.{filled}
use Rattle.forms.specs.Row.{row_form}
use Rattle.linear.specs.Basis.{dim}
use Rattle.linear.specs.Order.{Before, Rising, Ordered}
use Rattle.linear.specs.Select.{Once}
use Rattle.linear.specs.Span.{SameSpan}
use Rattle.linear.specs.Entry.{Solution, SolutionSpace, space, entries, chosen}
use Rattle.linear.specs.Rank.{Chosen, Computes}
use Rattle.linear.specs.Formulae.{formula, RankFormula}
use Rattle.linear.specs.Word.{word}
use Rattle.bases.specs.rows.Rows.{row_of}
use Rattle.catalogue.specs.listing.Listing.{records, flat, fitting}
use Rattle.rank.specs.fewest.Fewest.{Ranking, is, above, beyond, written}
use Rattle.catalogue.specs.Catalogue.{Catalogued}
use Rattle.records.specs.Length.{record_length}

-- the record of an entry, by its extension
abbrev pub entry_record : List ℕ → List ℕ → List ℕ → List ℕ
entry_record gens targets es = es ++ space word gens targets es

pub record CatalogueMeans (gens targets : List ℕ) (k : ℕ) (old : List ℕ) (c : Catalogued) : Type 0 where
  -- ℓ is the dimension of the targets' span
  pub ell : c.ell ≡ dim word targets
  -- the extensions of the entries; the space of one is its reduced basis
  pub extensions : List (List ℕ)
  pub found : c.found ≡ length extensions
  -- each space of k dimensions that contains the targets and is spanned by generators is there, and nothing else is
  pub all : (W : List ℕ) → Memᴰ W (map (space word gens targets) extensions) ↔ Solution word gens targets k W
  -- none comes twice
  pub once : Once (space word gens targets) extensions
  -- the same of a space that is given by any list of vectors: it is spanned by exactly one of them, and each of them is such a space
  pub each_space : (X : List ℕ) → SolutionSpace word gens targets k X
      → (es : List ℕ) × Memᴰ es extensions × SameSpan word (space word gens targets es) X
      × ((fs : List ℕ) → Memᴰ fs extensions → SameSpan word (space word gens targets fs) X → fs ≡ es)
  pub every_entry : (es : List ℕ) → Memᴰ es extensions → SolutionSpace word gens targets k (space word gens targets es)
  -- an extension is a "set of k − ℓ menu numbers .. written ascending"
  pub shape : (es : List ℕ) → Memᴰ es extensions → (length es ≡ k - dim word targets) × Rising 0 (length gens) es
  -- "Entries are listed in dictionary order of their extensions"; an extension is the "first in dictionary order" of all k − ℓ numbers with its space
  pub ordered : Ordered Before extensions
  pub first : (es fs : List ℕ) → Memᴰ es extensions → length fs ≡ k - dim word targets → Rising 0 (length gens) fs → space word gens targets fs ≡ space word gens targets es → (es ≡ fs) ⊎ Before es fs
  -- the first shown records, then the old content
  pub shown : c.shown ≡ fitting (record_length (dim word targets) k) c.found (length old)
  pub buffer : c.buffer ≡ flat (take c.shown (map (entry_record gens targets) extensions)) ++ drop (c.shown * record_length (dim word targets) k) old
  -- record i stands at i times its length: "the extension ascending, then the k rows of its reduced basis"
  pub record_at : (i : ℕ) → i < c.shown → take (record_length c.ell k) (drop (i * record_length c.ell k) c.buffer) ≡ entry_record gens targets (get_or extensions i [])
  -- "For k below ℓ, or above what the menu spans, found and shown are 0."
  pub outside : (k < dim word targets) ⊎ (dim word gens < k) → (c.found ≡ 0) × (c.shown ≡ 0)
  -- no entry, though the generators span k dimensions: no k or fewer of them compute the targets
  pub none : c.found ≡ 0 → k ≤ dim word gens → (xs : List ℕ) → Chosen word gens xs → length xs ≤ k → Computes word targets xs → ⊥

pub record RankMeans (gens targets prices old : List ℕ) (a : Ranking) : Type 0 where
  -- a number r: the products are r independent generators that compute the targets, a formula of an entry for r; no choice of fewer generators computes the
  -- targets; none is cheaper: any r generators that compute the targets, in whatever order, cost at least as much; and of those that cost as much none, written
  -- ascending, comes before these in a dictionary (`RankFormula`); the buffer holds the products and the rows, then its old content
  pub number : (r : ℕ) (buffer : List ℕ) → a ≡ is r buffer
      → (es : List ℕ) × (length es ≡ r) × RankFormula word gens targets prices es × (buffer ≡ filled (es ++ map (row_of (chosen word gens es)) targets) old)
      -- each target is the sum that its row says, and no other row of r bits says it
      × ((t : ℕ) → Memᴰ t targets → row_form (chosen word gens es) (row_of (chosen word gens es) t) 0 ≡ t)
      × ((t row : ℕ) → row < 2 ^ length (chosen word gens es) → row_form (chosen word gens es) row 0 ≡ t → row ≡ row_of (chosen word gens es) t)
  -- a number is replied exactly if some ℓ + 6 or fewer generators compute the targets
  pub exactly : ((r : ℕ) × (buffer : List ℕ) × (a ≡ is r buffer)) ↔ ((xs : List ℕ) × Chosen word gens xs × (length xs ≤ dim word targets + 6) × Computes word targets xs)
  -- above exactly if the generators span the targets and no k from ℓ to ℓ + 6 has an entry; beyond exactly if they don't span the targets
  pub above_exactly : (a ≡ above) ↔ (Computes word targets gens × ((k : ℕ) → dim word targets ≤ k → k ≤ dim word targets + 6 → entries word gens targets k ≡ []))
  pub beyond_exactly : (a ≡ beyond) ↔ (Computes word targets gens → ⊥)
