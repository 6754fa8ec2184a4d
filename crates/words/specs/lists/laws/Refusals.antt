-- The refusals by what the tests say, and what `or` of tests says of them.
--   unlike_some, unlike_none   a list has not as many forms as it should, or both have
--   map_as, list_as            the refusals
-- Assumes nothing.
use Rattle.std.specs.Prelude.{◌≡◌, ◌≢◌, Bool, true, false, not, ◌||◌, cond, ◌⊎◌, List, ℕ, length, eqb, ltb, refl}
use Rattle.std.proofs.Common.{inl, inr, eq-eqb, ne_eqb}
use Rattle.words.specs.Masks.{wide, zero_in}
use Rattle.words.specs.lists.Lists.{unlike, repeats, list_refusal, map_refusal}
use Rattle.kinds.specs.Limits.{most_generators}

or_true : (a : Bool) → a || true ≡ true
or_true true = refl
or_true false = refl

pub unlike_some : (c u : ℕ) (gs ts : List ℕ) → (length gs ≢ c) ⊎ ((length gs ≡ c) × (length ts ≢ u)) → unlike c u gs ts ≡ true
unlike_some c u gs ts (inl n) = rw (ne_eqb (length gs) c n)
unlike_some c u gs ts (inr n) = rw (ne_eqb (length ts) u n.1) (or_true (not (eqb (length gs) c)))

pub unlike_none : (c u : ℕ) (gs ts : List ℕ) → length gs ≡ c → length ts ≡ u → unlike c u gs ts ≡ false
unlike_none c u gs ts d e = rw (eq-eqb (length gs) c d, eq-eqb (length ts) u e)

module _ (gs ts others : List ℕ) where
  pub map_as : (w : ℕ) {u o : Bool} → unlike 0 0 gs ts ≡ u → wide w others ≡ o → map_refusal w gs ts others ≡ cond u 5 (cond o 6 0)
  unfolding map_refusal
  map_as w a b = rw (a, b)

  pub list_as : (p q r : ℕ) {big u w z : Bool} → ltb most_generators q ≡ big → unlike q r gs ts ≡ u → wide p gs || (wide p ts || wide p others) ≡ w
      → zero_in gs || repeats gs ≡ z → list_refusal p q r gs ts others ≡ cond big 4 (cond u 5 (cond w 6 (cond z 7 0)))
  unfolding list_refusal
  list_as p q r a b c d = rw (a, b, c, d)
