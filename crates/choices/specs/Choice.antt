-- Chosen generators in the code, and the record of a formula.
--   numbers_of c, forms_of c        == the numbers and the forms in use of the record c
--   Chose gens es c               == c holds the generators with the numbers es
--   Solves products targets       == the products are independent, and each target is a sum of them
--   record_of c targets            == the record of the formula whose products c holds
--   formula_record gens targets es == the record of a formula: the numbers of its products, then a row for every target
--                                    [ product 0 | .. | product k − 1 | row of target 0 | .. | row of the last target ]
-- Document 01: "Each is recorded as its k menu numbers, then its rows: for every target, the mask of those products that sum to it".
--   marked marks j                == the mark of the number j is 1
--   chose_record   a choice of the generators numbered es has the record of es
-- Assumes nothing.
use Rattle.std.specs.Prelude.{◌≡◌, Bool, List, [], ◌++◌, map, ◌∷◌, ℕ, ◌≤◌, length, get_or, take, eqb}
use Rattle.std.proofs.Common.{ap₂}
use Rattle.linear.specs.Entry.{chosen}
use Rattle.linear.specs.Rank.{Computes}
use Rattle.linear.specs.Span.{Independent}
use Rattle.linear.specs.Word.{word}
use Rattle.bases.specs.rows.Rows.{row_of}
use Rattle.choices.specs.declared.Choice.{Choice}
use Rattle.kinds.specs.Limits.{most_products}

abbrev pub numbers_of : Choice → List ℕ
numbers_of c = take c.len c.numbers

abbrev pub forms_of : Choice → List ℕ
forms_of c = take c.len c.forms

-- room for 64 of each
pub record Whole (c : Choice) : Type 0 where
  pub numbers : length c.numbers ≡ most_products
  pub forms : length c.forms ≡ most_products
  pub room : c.len ≤ most_products

pub record Chose (gens es : List ℕ) (c : Choice) : Type 0 where
  pub whole : Whole c
  pub numbers : numbers_of c ≡ es
  pub forms : forms_of c ≡ chosen word gens es

pub record Solves (products targets : List ℕ) : Type 0 where
  pub independent : Independent word products
  pub computes : Computes word targets products

unfoldable pub formula_record : (gens targets es : List ℕ) → List ℕ
formula_record gens targets es = es ++ map (row_of (chosen word gens es)) targets

abbrev pub record_of : Choice → List ℕ → List ℕ
record_of c targets = numbers_of c ++ map (row_of (forms_of c)) targets

pub chose_record : (gens es targets : List ℕ) (c : Choice) → Chose gens es c → record_of c targets ≡ formula_record gens targets es
unfolding formula_record
chose_record gens es targets c C = ap₂ (λ (ns fs : List ℕ). ns ++ map (row_of fs) targets) C.numbers C.forms

-- one generator more, number j with the form g
pub record Added (c : Choice) (j g : ℕ) (r : Choice) : Type 0 where
  pub whole : Whole r
  pub numbers : numbers_of r ≡ numbers_of c ++ j ∷ []
  pub forms : forms_of r ≡ forms_of c ++ g ∷ []

-- ---- marks, one for each generator
abbrev pub marked : List ℕ → ℕ → Bool
marked marks j = eqb (get_or marks j 0) 1
