-- What Check's reply means, for every choice of input bits.
--   gives n m xs ys row a b   == what a row gives at the inputs a and b, whose bits are the a's and the b's
--   Right ..                  == every output of the formula is the map's, at every input
--   FirstDiffers .. t         == output t differs at some input, and no earlier one at any
--   RightFormula f, FormulaDiffers f t == the same of an admitted formula
--   Means .. v w              == the formula's kind and sizes are accepted, `right` is said exactly if it is Right, `wrong t` exactly if t FirstDiffers
-- The theorem is `check_means` (Theorems). Document 01: "The reply is right, or wrong with the first output that differs for some input."
-- Assumes nothing.
use Rattle.std.specs.Prelude.{◌≡◌, ◌≢◌, ◌↔◌, Bool, false, List, ℕ, ◌^◌, ◌<◌, length, get_or, Option, None, Some}
use Rattle.linear.specs.Bit.{bit}
use Rattle.kinds.specs.Kinds.{kind_numbered, is_list}
use Rattle.kinds.specs.Sizes.{shape_of, sizes}
use Rattle.kinds.specs.declared.Kind.{Kind}
use Rattle.kinds.specs.declared.Shape.{Shape}
use Rattle.maps.specs.Textbook.{output}
use Rattle.formula_check.specs.Formula.{formula_output, adders, Admitted}

abbrev pub gives : (n m : ℕ) (xs ys : List ℕ) (row a b : ℕ) → Bool
gives n m xs ys row a b = formula_output n m xs ys row 0 (bit a) (bit b)

-- output t of the formula is output t of the map at every input
abbrev pub Agrees : Shape → (n m : ℕ) (xs ys rows : List ℕ) → ℕ → Type 0
Agrees shape n m xs ys rows t = (a b : ℕ) → a < 2 ^ n → b < 2 ^ m → gives n m xs ys (get_or rows t 0) a b ≡ output shape (bit a) (bit b) t

abbrev pub Right : Shape → (n m : ℕ) (xs ys rows : List ℕ) → Type 0
Right shape n m xs ys rows = (t : ℕ) → t < length rows → Agrees shape n m xs ys rows t

pub record FirstDiffers (shape : Shape) (n m : ℕ) (xs ys rows : List ℕ) (t : ℕ) : Type 0 where
  pub there : t < length rows
  pub differs : (a : ℕ) × (b : ℕ) × (a < 2 ^ n) × (b < 2 ^ m) × (gives n m xs ys (get_or rows t 0) a b ≢ output shape (bit a) (bit b) t)
  pub first : (s : ℕ) → s < t → Agrees shape n m xs ys rows s

-- the same of an admitted formula
abbrev pub RightFormula : Admitted → Type 0
RightFormula f = Right f.shape f.n f.m f.firsts f.seconds f.rows

abbrev pub FormulaDiffers : Admitted → ℕ → Type 0
FormulaDiffers f t = FirstDiffers f.shape f.n f.m f.firsts f.seconds f.rows t

pub record Means (number p q r k : ℕ) (xs ys rows : List ℕ) (v : Option ℕ) (w : ℕ) : Type 0 where
  pub kd : Kind
  pub n : ℕ
  pub m : ℕ
  pub named : kind_numbered number ≡ Some kd
  pub map : is_list kd ≡ false
  pub sized : sizes (shape_of kd p q r) ≡ Some (n, m, length rows)
  pub products : length xs ≡ k
  pub pairs : length ys ≡ k
  pub right : (v ≡ None) ↔ Right (shape_of kd p q r) n m xs ys rows
  pub wrong : (t : ℕ) → (v ≡ Some t) ↔ FirstDiffers (shape_of kd p q r) n m xs ys rows t
  pub cost : w ≡ adders xs ys rows
