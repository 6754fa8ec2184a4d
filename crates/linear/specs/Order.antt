-- Rising lists of numbers, in dictionary order.
--   Before es fs      == es stands before fs in a dictionary
--   Rising lo hi es   == es rises strictly, from lo on and below hi
--   rising_lists n i m == all rising lists of m numbers out of i, .., i + n - 1, in dictionary order
--   Ordered _≺_ l     == each member of l stands before all those after it
--   factorial m       == m!
-- Document 01: "first in dictionary order when written ascending". A set of generator numbers is its list, written ascending.
-- Theorems (proofs/laws/Order, proofs/laws/Count): `rising_sound`, `rising_complete`, `rising_ordered`; and how many there are, `rising_count`:
-- m! × their number ≤ n ^ m.
-- Assumes nothing.
use Rattle.std.specs.Prelude.{◌≡◌, ◌⊎◌, ℕ, zero, suc, ◌*◌, ◌<◌, ◌≤◌}
use mathlib.Core.List.{List, [], ◌∷◌, ◌++◌, map, Memᴰ}

abbrev pub Before : List ℕ → List ℕ → Type 0
Before [] [] = ⊥
Before [] (f ∷ fs) = Unit {0}
Before (e ∷ es) [] = ⊥
Before (e ∷ es) (f ∷ fs) = (e < f) ⊎ ((e ≡ f) × Before es fs)

abbrev pub Rising : ℕ → ℕ → List ℕ → Type 0
Rising lo hi [] = Unit {0}
Rising lo hi (e ∷ es) = (lo ≤ e) × (e < hi) × Rising (suc e) hi es

-- those that begin with i, then those that don't
unfoldable pub rising_lists : ℕ → ℕ → ℕ → List (List ℕ)
rising_lists n i zero = [] ∷ []
rising_lists zero i (suc m) = []
rising_lists (suc n) i (suc m) = map (λ es. i ∷ es) (rising_lists n (suc i) m) ++ rising_lists n (suc i) (suc m)

abbrev pub Ordered : {A : Type 0} → (A → A → Type 0) → List A → Type 0
Ordered ◌≺◌ [] = Unit {0}
Ordered {A} ◌≺◌ (x ∷ l) = ((y : A) → Memᴰ y l → ◌≺◌ x y) × Ordered ◌≺◌ l

unfoldable pub factorial : ℕ → ℕ
factorial zero = 1
factorial (suc m) = suc m * factorial m
