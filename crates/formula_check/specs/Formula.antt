-- A formula, and what Check says of it.
--   formula_output n m xs ys row k a b == what the row gives at the bits a and b; the products are the pairs of xs and ys, the first numbered k
--   first_wrong ..                     == the first output, from t on, whose row does not give the target
--   adders xs ys rows                 == the adders of a formula, a sum of inputs that is wired once counted once
--   unshared_adders xs ys rows         == the same with nothing shared, as document 01 counts
--   Admitted                          == a formula that is not refused: kind and sizes, n and m, its products and its rows
--   admit ..                          == refused by a number, 2 to 8, or the admitted formula
--   verdict f                         == of an admitted formula: the first wrong output (none: right) and the adders
--   check ..                          == the reply on numbers: a formula is admitted, then judged
--   held_in la lb lr f                 == refused by 9 where f is to be put into buffers of la, lb and lr words and one is too short
-- Document 01: "A formula has k products, each a pair of masks, and one row per target. It may repeat a product. The reply is right, or wrong
-- with the first output that differs for some input."
-- The theorem that ties it to every choice of input bits is in `meaning`. Assumes nothing.
use Rattle.std.specs.Prelude.{Bool, false, not, ◌&&◌, ◌||◌, cond, List, [], ◌∷◌, ℕ, suc, ◌+◌, length, eqb, ltb, Option, None, Some}
use Rattle.linear.specs.Bit.{bit, xor_b}
use Rattle.kinds.specs.Kinds.{kind_numbered, known_map}
use Rattle.kinds.specs.Sizes.{shape_of, sizes}
use Rattle.kinds.specs.Refusal.{Answer, accepted, need, refuse, follow}
use Rattle.words.specs.Masks.{wide, zero_in}
use Rattle.kinds.specs.declared.Kind.{Kind}
use Rattle.kinds.specs.declared.Shape.{Shape}
use Rattle.forms.specs.Row.{row_form}
use Rattle.formula_check.specs.sums.Sums.{product_forms, adders_of, side_adders}
use Rattle.maps.specs.Textbook.{sum_to}
use Rattle.maps.specs.Target.{target_form}
use Rattle.kinds.specs.Limits.{most_products}

-- ---- on bits: the sum, over the products k in the row, of (the sum of the a's in its first mask) × (the sum of the b's in its second)
unfoldable pub formula_output : (n m : ℕ) (xs ys : List ℕ) (row k : ℕ) (a b : ℕ → Bool) → Bool
formula_output n m [] ys row k a b = false
formula_output n m (x ∷ xs) [] row k a b = false
formula_output n m (x ∷ xs) (y ∷ ys) row k a b =
    xor_b (bit row k && (sum_to n (λ i. bit x i && a i) && sum_to m (λ j. bit y j && b j))) (formula_output n m xs ys row (suc k) a b)

-- ---- by forms
unfoldable pub first_wrong : Shape → (n m : ℕ) → List ℕ → List ℕ → ℕ → Option ℕ
first_wrong shape n m fs [] t = None
first_wrong shape n m fs (row ∷ rows) t =
    cond (eqb (row_form fs row 0) (target_form shape n m t)) (first_wrong shape n m fs rows (suc t)) (Some t)

-- ---- adders: Wish 2, "each distinct a mask once and each distinct b mask once; rows are counted as before"
abbrev pub adders : (xs ys rows : List ℕ) → ℕ
adders xs ys rows = side_adders xs + side_adders ys + adders_of rows

abbrev pub unshared_adders : (xs ys rows : List ℕ) → ℕ
unshared_adders xs ys rows = adders_of xs + adders_of ys + adders_of rows

-- ---- the reply
-- the masks of the products' first factors, of their second factors, and the rows
abbrev pub Lists : Type 0
Lists = List ℕ × List ℕ × List ℕ

pub record Admitted : Type 0 where
  pub shape : Shape
  pub n : ℕ
  pub m : ℕ
  pub firsts : List ℕ
  pub seconds : List ℕ
  pub rows : List ℕ

abbrev pub formula_of : Shape → (n m : ℕ) → (xs ys rows : List ℕ) → Admitted
formula_of shape n m xs ys rows = record { shape = shape; n = n; m = m; firsts = xs; seconds = ys; rows = rows }

-- 6 to 8, of a formula with k products whose lists have the right lengths
unfoldable pub passed : Shape → (n m k : ℕ) → (xs ys rows : List ℕ) → Answer Admitted
passed shape n m k xs ys rows =
    refuse 6 (wide n xs || (wide m ys || wide k rows))
    (refuse 7 (zero_in xs || zero_in ys)
    (refuse 8 (ltb most_products k)
    (accepted (formula_of shape n m xs ys rows))))

-- 2 to 8, of a formula from numbers or from a file: `lists u`, its lists if they are those of k products and u rows
unfoldable pub admit : Option Kind → (p q r k : ℕ) → (ℕ → Option Lists) → Answer Admitted
admit named p q r k lists =
    need 2 (known_map named) λ kd.
    need 3 (sizes (shape_of kd p q r)) λ z.
    need 5 (lists z.2) λ l.
    passed (shape_of kd p q r) z.0 z.1 k l.0 l.1 l.2

-- refusal 5, "in calls on numbers, a list handed in has the wrong length"
unfoldable pub lengths : (k u : ℕ) (xs ys rows : List ℕ) → Bool
lengths k u xs ys rows = not (eqb (length xs) k) || (not (eqb (length ys) k) || not (eqb (length rows) u))

abbrev pub lists_handed : (k : ℕ) (xs ys rows : List ℕ) → ℕ → Option Lists
lists_handed k xs ys rows u = cond (lengths k u xs ys rows) None (Some (xs, ys, rows))

-- refusal 9, "a lent buffer that must take the whole of an answer is too short"
abbrev pub too_short : (la lb lr : ℕ) → Admitted → Bool
too_short la lb lr f = ltb la (length f.firsts) || (ltb lb (length f.seconds) || ltb lr (length f.rows))

abbrev pub held_in : (la lb lr : ℕ) → Admitted → Answer Admitted
held_in la lb lr f = refuse 9 (too_short la lb lr f) (accepted f)

abbrev pub verdict : Admitted → Option ℕ × ℕ
verdict f =
    (first_wrong f.shape f.n f.m (product_forms f.n f.m f.firsts f.seconds) f.rows 0, adders f.firsts f.seconds f.rows)

unfoldable pub check : (number p q r k : ℕ) (xs ys rows : List ℕ) → Answer (Option ℕ × ℕ)
check number p q r k xs ys rows = follow (admit (kind_numbered number) p q r k (lists_handed k xs ys rows)) λ f. accepted (verdict f)
