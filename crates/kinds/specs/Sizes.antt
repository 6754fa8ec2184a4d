-- The sizes of a map: n variables a, m variables b, and the number of outputs; none where a size misfits document 01's table (refusal 3):
-- "one that must be at least 1 is 0, n × m exceeds 64, short or circ has p unlike q, an r that must be 0 is not, or list has p or r above 64".
-- Document 02 of mid: "another q is refused by 3".
--   shape_of kind p q r == the kind with its sizes
--   sizes shape        == n, m and the number of outputs. For list, whose forms have p bits and no factors, n is p and m is 1.
-- Assumes nothing.
use Rattle.std.specs.Prelude.{Bool, true, false, ◌&&◌, ℕ, ◌+◌, ◌-◌, ◌*◌, leb, eqb, Option, None, Some}
use Rattle.kinds.specs.Limits.{most_coordinates}
use Rattle.kinds.specs.declared.Kind.{Kind}
use Rattle.kinds.specs.declared.Kind.TheVariants as kind
use Rattle.kinds.specs.declared.Shape.{Shape}

-- a value where the test holds
abbrev pub given : {A : Type 0} → Bool → A → Option A
given true x = Some x
given false x = None

-- x and y at least 1, and x × y at most 64
unfoldable pub within : ℕ → ℕ → Bool
within x y = leb 1 x && (leb 1 y && leb (x * y) most_coordinates)

-- "n = p, m = q, r = 0", "t below n + m − 1"
unfoldable pub poly_sizes : ℕ → ℕ → ℕ → Option (ℕ × ℕ × ℕ)
poly_sizes p q r = given (eqb r 0 && within p q) (p, q, p + q - 1)

-- short and circ: "n = m = p = q, r = 0", "t below n"
unfoldable pub square_sizes : ℕ → ℕ → ℕ → Option (ℕ × ℕ × ℕ)
square_sizes p q r = given (eqb r 0 && (eqb p q && within p q)) (p, q, p)

-- "n = p × q, m = q × r", "entry of the p by q times q by r product"; n and m are at least 1 exactly if p, q and r are
unfoldable pub mat_sizes : ℕ → ℕ → ℕ → Option (ℕ × ℕ × ℕ)
mat_sizes p q r = given (within (p * q) (q * r)) (p * q, q * r, p * r)

-- "p bits, q menu forms, r targets"
unfoldable pub list_sizes : ℕ → ℕ → ℕ → Option (ℕ × ℕ × ℕ)
list_sizes p q r = given (leb 1 q && (within p 1 && within r 1)) (p, 1, r)

-- mid: "n = p, m = 2n − 1 = q, r = 0, and output t below n"
unfoldable pub mid_sizes : ℕ → ℕ → ℕ → Option (ℕ × ℕ × ℕ)
mid_sizes p q r = given (eqb r 0 && (eqb q (2 * p - 1) && within p q)) (p, q, p)

abbrev pub sizes_for : Kind → ℕ → ℕ → ℕ → Option (ℕ × ℕ × ℕ)
sizes_for kind.Poly p q r = poly_sizes p q r
sizes_for kind.Short p q r = square_sizes p q r
sizes_for kind.Circ p q r = square_sizes p q r
sizes_for kind.Mat p q r = mat_sizes p q r
sizes_for kind.List p q r = list_sizes p q r
sizes_for kind.Mid p q r = mid_sizes p q r

abbrev pub shape_of : Kind → (p q r : ℕ) → Shape
shape_of k p q r = record { kind = k; p = p; q = q; r = r }

abbrev pub sizes : Shape → Option (ℕ × ℕ × ℕ)
sizes shape = sizes_for shape.kind shape.p shape.q shape.r
