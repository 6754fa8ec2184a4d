-- A full product formula turned into a middle product formula.
--   reversed n x        == the mask x reversed in its n bits
--   column xs l         == the column of some masks at place l: bit t is bit l of mask t
--   columns xs c        == their columns at the places below c
--   middle_of n          == the middle product of n variables a
--   turned f            == the middle product formula that f is turned into
--   is_poly named        == whether the kind is known, and poly
--   turnable named p q r == refused by 2 or 3 where a formula of that kind and those sizes is not turned, whatever its products
--   turned_into u v w f  == refused by 12, or by 9 for buffers of u, v and w words, or the turned formula
--   turning ..          == the reply on numbers
-- Document 02: "They also want a full product formula for n,n turned into a middle product formula. Its products keep their order". What it means: Theorems.
-- Assumes nothing.
use Rattle.std.specs.Prelude.{Bool, false, not, List, map, ℕ, ◌-◌, ◌*◌, length, get_or, eqb, Option, None, Some}
use Rattle.linear.specs.Bit.{bit}
use Rattle.kinds.specs.Kinds.{number_of, kind_numbered}
use Rattle.kinds.specs.Sizes.{shape_of, sizes}
use Rattle.kinds.specs.Refusal.{Answer, accepted, need, refuse, follow}
use Rattle.kinds.specs.declared.Kind.{Kind}
use Rattle.kinds.specs.declared.Kind.TheVariants as kind
use Rattle.kinds.specs.declared.Shape.{Shape}
use Rattle.words.specs.Masks.{zero_in}
use Rattle.forms.specs.products.Product.{form_of}
use Rattle.maps.specs.Generators.{list_of}
use Rattle.formula_check.specs.Formula.{Admitted, formula_of, admit, lists_handed, held_in}

-- "the a mask is reversed in its n bits"
abbrev pub reversed : (n x : ℕ) → ℕ
reversed n x = form_of n (λ i. bit x (n - 1 - i))

-- "the b mask becomes the column of the old rows at that product (bit t from row t)"
abbrev pub column : List ℕ → ℕ → ℕ
column xs l = form_of (length xs) (λ t. bit (get_or xs t 0) l)

abbrev pub columns : List ℕ → ℕ → List ℕ
columns xs c = list_of (column xs) 0 c

abbrev pub middle_of : ℕ → Shape
middle_of n = shape_of kind.Mid n (2 * n - 1) 0

-- "and old b masks give the new rows": row t is their column at place t
abbrev pub turned : Admitted → Admitted
turned f =
    formula_of (middle_of f.n) f.n (2 * f.n - 1) (map (reversed f.n) f.firsts) (columns f.rows (length f.firsts))
    (columns f.seconds f.n)

-- ---- refusals
abbrev pub is_poly : Option Kind → Bool
is_poly None = false
is_poly (Some k) = eqb (number_of k) (number_of kind.Poly)

-- "The turning refuses a kind other than poly by 2, and p unlike q or mid sizes over the limit by 3", and poly's sizes by 3 as Check does
unfoldable pub turnable : Option Kind → (p q r : ℕ) → Answer (Unit {0})
turnable named p q r =
    refuse 2 (not (is_poly named))
    (need 3 (sizes (shape_of kind.Poly p q r)) λ _.
    refuse 3 (not (eqb p q))
    (need 3 (sizes (middle_of p)) λ _.
    accepted tt))

-- "Turned away: 12, in the turning only and after 8, when a product is used by no row"; then 9 (formula_check)
abbrev pub turned_into : (u v w : ℕ) → Admitted → Answer Admitted
turned_into u v w f = refuse 12 (zero_in (columns f.rows (length f.firsts))) (held_in u v w (turned f))

-- 2 and 3, then those of Check, then 12 and 9
unfoldable pub turning : (number p q r k : ℕ) (xs ys rows : List ℕ) (u v w : ℕ) → Answer Admitted
turning number p q r k xs ys rows u v w =
    follow (turnable (kind_numbered number) p q r) λ _.
    follow (admit (kind_numbered number) p q r k (lists_handed k xs ys rows)) (turned_into u v w)
