-- The forms to be computed, and the value of a form.
--   value n m f a b          == the form f in n and m variables, at the bits a and b
--   pair shape t i j         == a_i b_j is a term of output t
--   target_form shape n m t   == the form of output t, in n and m variables
-- Document 01: "The targets are the forms to be computed." Theorems: target_value (Meaning). Assumes nothing.
use Rattle.std.specs.Prelude.{Bool, false, ◌&&◌, ℕ, ◌+◌, ◌-◌, ◌*◌, ◌/◌, ◌%◌, eqb}
use Rattle.linear.specs.Bit.{bit}
use Rattle.kinds.specs.declared.Kind.{Kind}
use Rattle.kinds.specs.declared.Kind.TheVariants as kind
use Rattle.kinds.specs.declared.Shape.{Shape}
use Rattle.forms.specs.products.Product.{form_of}
use Rattle.maps.specs.Textbook.{sum_to}

unfoldable pub value : (n m f : ℕ) → (a b : ℕ → Bool) → Bool
value n m f a b = sum_to n (λ i. sum_to m (λ j. bit f (i * m + j) && (a i && b j)))

-- of a matrix product: a_i stands in row i / q and column i % q, b_j in row j / r and column j % r
unfoldable pub pair_for : Kind → (p q r t i j : ℕ) → Bool
pair_for kind.Poly p q r t i j = eqb (i + j) t
pair_for kind.Short p q r t i j = eqb (i + j) t
pair_for kind.Circ p q r t i j = eqb ((i + j) % p) t
pair_for kind.Mat p q r t i j = eqb (i / q) (t / r) && (eqb (i % q) (j / r) && eqb (j % r) (t % r))
pair_for kind.List p q r t i j = false
pair_for kind.Mid p q r t i j = eqb (i + j) (p - 1 + t)

abbrev pub pair : Shape → (t i j : ℕ) → Bool
pair shape t i j = pair_for shape.kind shape.p shape.q shape.r t i j

unfoldable pub target_form : Shape → (n m t : ℕ) → ℕ
target_form shape n m t = form_of (n * m) (λ s. pair shape t (s / m) (s % m))
