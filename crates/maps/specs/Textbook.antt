-- The maps on bits, as a textbook has them: nothing here speaks of forms.
--   sum_to n f              == f 0 + f 1 + .. + f (n − 1), modulo 2
--   output shape a b t     == output t of the map of that kind and sizes at the bits a₀, a₁, .. and b₀, b₁, ..
-- Assumes nothing.
use Rattle.std.specs.Prelude.{Bool, false, ◌&&◌, ℕ, zero, suc, ◌+◌, ◌-◌, ◌*◌, ◌/◌, ◌%◌, eqb}
use Rattle.linear.specs.Bit.{xor_b}
use Rattle.kinds.specs.declared.Kind.{Kind}
use Rattle.kinds.specs.declared.Kind.TheVariants as kind
use Rattle.kinds.specs.declared.Shape.{Shape}

unfoldable pub sum_to : ℕ → (ℕ → Bool) → Bool
sum_to zero f = false
sum_to (suc n) f = xor_b (sum_to n f) (f n)

-- Document 01: poly, "sum of a_i b_j with i + j = t" with n = p and m = q; short, "the same, for t below n";
-- circ, "sum with i + j equal to t modulo n"; mat, "entry of the p by q times q by r product", where "Matrices and their products are
-- numbered row by row, in both factors and in the output": output t is the entry in row t / r and column t % r. A list has no formula.
-- Document 02: mid, with n = p and m = q, "output t below n is the sum of a_i b_j with i + j = n − 1 + t".
unfoldable pub output_for : Kind → (p q r : ℕ) → (a b : ℕ → Bool) → ℕ → Bool
output_for kind.Poly p q r a b t = sum_to p (λ i. sum_to q (λ j. eqb (i + j) t && (a i && b j)))
output_for kind.Short p q r a b t = sum_to p (λ i. sum_to q (λ j. eqb (i + j) t && (a i && b j)))
output_for kind.Circ p q r a b t = sum_to p (λ i. sum_to q (λ j. eqb ((i + j) % p) t && (a i && b j)))
output_for kind.Mat p q r a b t = sum_to q (λ z. a (t / r * q + z) && b (z * r + t % r))
output_for kind.List p q r a b t = false
output_for kind.Mid p q r a b t = sum_to p (λ i. sum_to q (λ j. eqb (i + j) (p - 1 + t) && (a i && b j)))

abbrev pub output : Shape → (a b : ℕ → Bool) → ℕ → Bool
output shape a b t = output_for shape.kind shape.p shape.q shape.r a b t
