-- The theorem that a buyer would ask for: what an accepted reply of Check means. What is refused, and by which number, is the definition `check` itself.
--   check_means   right is replied exactly if, for every a below 2 ^ n and every b below 2 ^ m, each output of the formula is the textbook output;
--                 wrong t exactly if t is the least output that differs for some a and b; the adders are those of Wish 2's rule (`sums/Theorems`)
--   verdict_means the same of the verdict on an admitted formula, whose kind is a map's and whose sizes fit
--   check_right   right is said of an admitted formula exactly if it is right
--   right_coefficients   a formula is right, at every input, exactly if each coefficient of each output is the map's
-- Assumes nothing.
use Rattle.std.specs.Prelude.{◌≡◌, List, false, ◌↔◌, ℕ, length, Option, None, Some}
use Rattle.kinds.specs.declared.Shape.{Shape}
use Rattle.kinds.specs.Refusal.{accepted}
use Rattle.kinds.specs.Kinds.{kind_numbered, is_list}
use Rattle.kinds.specs.Sizes.{sizes}
use Rattle.formula_check.specs.Formula.{Admitted, admit, lists_handed, verdict, check}
use Rattle.formula_check.specs.meaning.Meaning.{Right, RightFormula, FormulaDiffers, Means}
use Rattle.formula_check.specs.meaning.Tensor.{Coefficients}
use Rattle.formula_check.proofs.laws.of_meaning.Meaning as meaning
use Rattle.formula_check.proofs.laws.of_meaning.Tensor as tensors

pub verdict_means : (f : Admitted) → sizes f.shape ≡ Some (f.n, f.m, length f.rows) → is_list f.shape.kind ≡ false
    → (((verdict f).0 ≡ None) ↔ RightFormula f) × ((t : ℕ) → ((verdict f).0 ≡ Some t) ↔ FormulaDiffers f t)
verdict_means = meaning.verdict_means

pub check_means : (number p q r k : ℕ) (xs ys rows : List ℕ) (v : Option ℕ) (w : ℕ) → check number p q r k xs ys rows ≡ accepted (v, w) → Means number p q r k xs ys rows v w
check_means = meaning.check_means

pub check_right : (number p q r k : ℕ) (xs ys rows : List ℕ) (f : Admitted) → admit (kind_numbered number) p q r k (lists_handed k xs ys rows) ≡ accepted f
    → ((w : ℕ) × (check number p q r k xs ys rows ≡ accepted (None, w))) ↔ RightFormula f
check_right = meaning.check_right

pub right_coefficients : (shape : Shape) (n m : ℕ) (xs ys rows : List ℕ) → sizes shape ≡ Some (n, m, length rows) → is_list shape.kind ≡ false
    → Right shape n m xs ys rows ↔ Coefficients shape n m xs ys rows
right_coefficients = tensors.right_coefficients
