-- Wish 2: "Adders on the input side now count each distinct a mask once and each distinct b mask once; rows are counted as before".
--   distinct_masks   the masks that are counted are the side's masks
--   distinct_once    each of them is counted once
--   side_pinned      any list that has each mask of the side once has the adders that are counted: nothing hangs on how `distinct` is written
--   side_masks       two sides with the same masks, however often and in whatever order, have the same adders
--   side_most        a side never has more adders than with every mask counted
--   side_equal       it has as many exactly if no mask with two or more ones stands twice
--   adders_most      a formula never has more adders than with nothing shared
--   adders_equal     it has as many exactly if no mask with two or more ones stands twice on one side
--   adders_order     the order in which the masks of a side stand makes no difference
-- Assumes nothing.
use Rattle.std.specs.Prelude.{◌≡◌, ◌↔◌, ℕ, ◌≤◌}
use mathlib.Core.List.{List, Permᴰ}
use Rattle.linear.specs.Select.{Once}
use Rattle.formula_check.specs.Formula.{adders, unshared_adders}
use Rattle.formula_check.specs.sums.Sums.{adders_of, distinct, side_adders}
use Rattle.formula_check.specs.sums.Sharing.{SameMasks, NoneTwice}
use Rattle.formula_check.proofs.laws.of_sums.Sharing as sharing

pub distinct_masks : (xs : List ℕ) → SameMasks (distinct xs) xs
distinct_masks = sharing.distinct_masks

pub distinct_once : (xs : List ℕ) → Once (λ x. x) (distinct xs)
distinct_once = sharing.distinct_once

pub side_pinned : (xs us : List ℕ) → Once (λ x. x) us → SameMasks us xs → side_adders xs ≡ adders_of us
side_pinned = sharing.side_pinned

pub side_masks : (xs ys : List ℕ) → SameMasks xs ys → side_adders xs ≡ side_adders ys
side_masks = sharing.side_masks

pub side_most : (xs : List ℕ) → side_adders xs ≤ adders_of xs
side_most = sharing.side_most

pub side_equal : (xs : List ℕ) → (side_adders xs ≡ adders_of xs) ↔ NoneTwice xs
side_equal = sharing.side_equal

pub adders_most : (xs ys rows : List ℕ) → adders xs ys rows ≤ unshared_adders xs ys rows
adders_most = sharing.adders_most

pub adders_equal : (xs ys rows : List ℕ) → (adders xs ys rows ≡ unshared_adders xs ys rows) ↔ (NoneTwice xs × NoneTwice ys)
adders_equal = sharing.adders_equal

pub adders_order : (xs ys rows xs' ys' : List ℕ) → Permᴰ xs xs' → Permᴰ ys ys' → adders xs ys rows ≡ adders xs' ys' rows
adders_order = sharing.adders_order
