-- Choosing from a list by tests.
--   any_of p l                            == some member of l passes p
--   only p l                             == the members of l that pass p, in their order
--   first_of_each key ok same earlier l    == the members of l whose key passes, each the first with that key (and none of `earlier` has it)
--   Once key l                           == no two members of l have the same key
-- Laws: proofs/laws/Select. Assumes nothing.
use Rattle.std.specs.Prelude.{◌≢◌, Bool, false, cond, not, ◌&&◌, ◌||◌}
use mathlib.Core.List.{List, [], ◌∷◌, Memᴰ}

module _ {A : Type 0} (p : A → Bool) where
  unfoldable pub any_of : List A → Bool
  any_of [] = false
  any_of (x ∷ l) = p x || any_of l

  unfoldable pub only : List A → List A
  only [] = []
  only (x ∷ l) = let r = only l in cond (p x) (x ∷ r) r

module _ {A B : Type 0} (key : A → B) (ok : B → Bool) (same : B → B → Bool) where
  unfoldable pub first_of_each : List A → List A → List A
  first_of_each earlier [] = []
  first_of_each earlier (x ∷ l) =
      let r = first_of_each (x ∷ earlier) l in cond (ok (key x) && not (any_of (λ y. same (key y) (key x)) earlier)) (x ∷ r) r

abbrev pub Once : {A B : Type 0} → (A → B) → List A → Type 0
Once key [] = Unit {0}
Once {A} key (x ∷ l) = ((y : A) → Memᴰ y l → key x ≢ key y) × Once key l
