-- What the answers on a selection mean, in words of sums. To be read from top to bottom; the theorems stand in proofs/Theorems.
--   PartOf, TermsOf   == the part of the selection that may be used; the terms out of it
--   SumTold, SumMeans == what an answer to "is the form a sum" says of the form and the buffer; and that the selection fits
--   TooShort          == the selection fits, and the form is a sum of selected generators whose terms don't fit the buffer
--   RedundantMeans    == what an answer to "is j redundant" says of the targets
--   CallShows         == the call shows the terms of a form
-- Assumes nothing.
use Rattle.std.specs.Prelude.{◌≡◌, ◌↔◌, ◌⊎◌, Bool, true, ℕ, ◌<◌, length}
use mathlib.Core.List.{List, Memᴰ}
use Rattle.kinds.specs.Refusal.{accepted}
use Rattle.problems.specs.Problem.{Problem}
use Rattle.words.specs.Buffers.{filled}
use Rattle.linear.specs.Span.{Span, SameSpan, Independent}
use Rattle.linear.specs.Order.{Before, Rising}
use Rattle.linear.specs.Entry.{chosen}
use Rattle.linear.specs.Rank.{Computes}
use Rattle.linear.specs.Word.{word}
use Rattle.bases.specs.rows.Terms.{sum_of_forms, terms}
use Rattle.selections.specs.on_forms.Selected.{SelectionFits, without}
use Rattle.selections.specs.on_forms.Shown.{Summing, sum_of, no_sum}
use Rattle.selections.specs.Selections.{is_sum}

-- Document 02: "the dictionary_first part that is independent and spans all of the selection"
pub record PartOf (gens sel es : List ℕ) : Type 0 where
  pub rising : Rising 0 (length gens) es
  pub selected : (e : ℕ) → Memᴰ e es → Memᴰ e sel
  pub independent : Independent word (chosen word gens es)
  pub spans : SameSpan word (chosen word gens es) (chosen word gens sel)
  pub first : (fs : List ℕ) → Rising 0 (length gens) fs → ((e : ℕ) → Memᴰ e fs → Memᴰ e sel) → Independent word (chosen word gens fs)
      → SameSpan word (chosen word gens fs) (chosen word gens sel) → (es ≡ fs) ⊎ Before es fs

-- "so there is one such sum"
pub record TermsOf (gens es : List ℕ) (v : ℕ) (ts : List ℕ) : Type 0 where
  pub rising : Rising 0 (length gens) ts
  pub of_part : (e : ℕ) → Memᴰ e ts → Memᴰ e es
  pub sums : sum_of_forms (chosen word gens ts) ≡ v
  pub only : (us : List ℕ) → Rising 0 (length gens) us → ((e : ℕ) → Memᴰ e us → Memᴰ e es) → sum_of_forms (chosen word gens us) ≡ v → us ≡ ts

-- a yes with so many terms in the buffer, and a no
abbrev pub SumTold : (gens sel : List ℕ) (form : ℕ) (old : List ℕ) → Summing → Type 0
SumTold gens sel form old (sum_of n buffer) =
    Span word (chosen word gens sel) form
    × ((es ts : List ℕ) × PartOf gens sel es × TermsOf gens es form ts × (n ≡ length ts) × (buffer ≡ filled ts old))
SumTold gens sel form old no_sum = Span word (chosen word gens sel) form → ⊥

-- ---- of which selected generators a form is the sum
pub record SumMeans (x : Problem) (sel : List ℕ) (form : ℕ) (old : List ℕ) (a : Summing) : Type 0 where
  pub fits : SelectionFits (length x.generators) sel
  pub means : SumTold x.generators sel form old a

module _ (x : Problem) (sel : List ℕ) (form : ℕ) (old : List ℕ) where
  abbrev pub its_terms : List ℕ
  its_terms = terms x.generators sel form

  -- the form is a sum of selected generators whose terms don't fit the buffer
  pub record TooShort : Type 0 where
    pub fits : SelectionFits (length x.generators) sel
    pub sums : Span word (chosen word x.generators sel) form
    pub short : length old < length its_terms

-- ---- is a generator redundant
pub record RedundantMeans (x : Problem) (sel : List ℕ) (j : ℕ) (b : Bool) : Type 0 where
  pub fits : SelectionFits (length x.generators) sel
  pub spans : Computes word x.targets (chosen word x.generators sel)
  pub selected : Memᴰ j sel
  pub exactly : (b ≡ true) ↔ Computes word x.targets (chosen word x.generators (without j sel))

-- ---- the other questions rest on the terms
-- Document 02: "Spare questions and formula rows rest on the new reply and must agree with it." Any buffer with room for the selection will do.
-- the call shows the terms of a form
abbrev pub CallShows : (number p q r : ℕ) (gs ts sel : List ℕ) (form : ℕ) (old : List ℕ) → Type 0
CallShows number p q r gs ts sel form old = (n : ℕ) × (buffer : List ℕ) × (is_sum number p q r gs ts sel form old ≡ accepted (sum_of n buffer))
