-- The kinds by their names and numbers.
--   name_plain      no byte of a name is below `a`: no comma, no line feed
--   number_below    a kind's number is below the count of kinds
-- Assumes nothing.
use Rattle.std.specs.Prelude.{◌≡◌, Bool, true, false, ℕ, ◌≤◌, ◌<◌, List, [], ◌∷◌, length, ltb, None, Some}
use Rattle.std.proofs.Common.{sym, ◌∙◌, refl, arith, ne_eqb}
use Rattle.std.proofs.lemmas.Bool.{ltb-true, ltb-false}
use Rattle.kinds.specs.declared.Kind.{Kind}
use Rattle.kinds.specs.declared.Kind.TheVariants as kind
use Rattle.kinds.specs.Kinds.{name_of, kinds, kind_numbered}

-- no byte below `a`
abbrev pub Plain : List ℕ → Type 0
Plain [] = Unit {0}
Plain (b ∷ s) = (97 ≤ b) × Plain s

pub name_plain : (k : Kind) → Plain (name_of k)
name_plain kind.Poly = omega arith
name_plain kind.Short = omega arith
name_plain kind.Circ = omega arith
name_plain kind.Mat = omega arith
name_plain kind.List = omega arith
name_plain kind.Mid = omega arith

beyond : (x : ℕ) → length kinds ≤ x → kind_numbered x ≡ None
unfolding kind_numbered
beyond x h = rw (
  ne_eqb 0 x (λ e. omega arith),
  ne_eqb 1 x (λ e. omega arith),
  ne_eqb 2 x (λ e. omega arith),
  ne_eqb 3 x (λ e. omega arith),
  ne_eqb 4 x (λ e. omega arith),
  ne_eqb 5 x (λ e. omega arith),
)

pub number_below : (i : ℕ) (k : Kind) → kind_numbered i ≡ Some k → i < length kinds
number_below i k e = go (ltb i (length kinds)) refl
  where
    go : (t : Bool) → ltb i (length kinds) ≡ t → i < length kinds
    go true q = ltb-true i (length kinds) q
    go false q = absurd (let no : None ≡ Some k = sym (beyond i (ltb-false i (length kinds) q)) ∙ e in cc)
