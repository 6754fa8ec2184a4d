-- The coefficients of a vector as a combination of others, found by reduction.
--   coefficient B x v == how much of x is in v, beside combinations of the reduced basis B
--   coefficients xs v == the coefficients of v as a combination of xs, one a vector
-- Laws (proofs/laws/Coefficients):
--   coefficients_length  as many as there are vectors
--   coefficients_sum     their combination is v, if v is one at all
--   coefficients_only    and no others are v's, if the vectors are independent
-- Assumes nothing.
use Rattle.std.specs.Prelude.{List, [], ◌∷◌}
use Rattle.linear.specs.Space.{Space}
use Rattle.linear.specs.Basis.{reduce, basis_of}

module _ (S : Space) where
  open S use {fld, Vec, add, scale, coord, lead}
  open fld use {K, times, neg, inv}

  unfoldable pub coefficient : List Vec → Vec → Vec → K
  coefficient B x v = let r = reduce S B x in times (coord (reduce S B v) (lead r)) (inv (coord r (lead r)))

  -- the first vector's coefficient beside combinations of the later ones, then theirs of what is left
  unfoldable pub coefficients : List Vec → Vec → List K
  coefficients [] v = []
  coefficients (x ∷ xs) v = let c = coefficient (basis_of S xs) x v in c ∷ coefficients xs (add (scale (neg c) x) v)
