-- Worked: the full product of 2 by 2 variables by three products (1,1), (2,2) and (3,3).
--   karatsuba_turned   rows 1, 7, 2 turn into (2,3), (1,6), (3,2) with the rows 5 and 6
--   unused_refused     12, which stands before 9
--   others_refused     2, 3, 7, 8 and 9
-- Assumes nothing.
use Rattle.std.specs.Prelude.{◌≡◌, refl, [], ◌∷◌, replicate}
use Rattle.linear.specs.Bit.{bit}
use Rattle.kinds.specs.Kinds.{kind_numbered}
use Rattle.kinds.specs.Sizes.{within, poly_sizes, mid_sizes, shape_of}
use Rattle.kinds.specs.Refusal.{refused, accepted}
use Rattle.kinds.specs.declared.Kind.TheVariants as kind
use Rattle.words.specs.Masks.{wide, zero_in}
use Rattle.forms.specs.products.Product.{form_of}
use Rattle.maps.specs.Generators.{list_of}
use Rattle.formula_check.specs.Formula.{formula_of, passed, admit, lengths}
use Rattle.turning.specs.Turning.{turnable, turning}

pub karatsuba_turned : turning 0 2 2 0 3 (1 ∷ 2 ∷ 3 ∷ []) (1 ∷ 2 ∷ 3 ∷ []) (1 ∷ 7 ∷ 2 ∷ []) 3 3 2
    ≡ accepted (formula_of (shape_of kind.Mid 2 3 0) 2 3 (2 ∷ 1 ∷ 3 ∷ []) (3 ∷ 6 ∷ 2 ∷ []) (5 ∷ 6 ∷ []))
unfolding turning turnable kind_numbered poly_sizes mid_sizes within admit lengths passed wide zero_in list_of form_of bit
karatsuba_turned = refl

-- rows 1, 3, 2 don't use the third product; with no room it is 12 all the same
pub unused_refused : (turning 0 2 2 0 3 (1 ∷ 2 ∷ 3 ∷ []) (1 ∷ 2 ∷ 3 ∷ []) (1 ∷ 3 ∷ 2 ∷ []) 3 3 2 ≡ refused 12)
    × (turning 0 2 2 0 3 (1 ∷ 2 ∷ 3 ∷ []) (1 ∷ 2 ∷ 3 ∷ []) (1 ∷ 3 ∷ 2 ∷ []) 0 0 0 ≡ refused 12)
unfolding turning turnable kind_numbered poly_sizes mid_sizes within admit lengths passed wide zero_in list_of form_of bit
unused_refused = (refl, refl)

-- in the order of the refusals: mid 2,3; poly 2,3; poly 6,6, whose middle product has 66 coordinates; poly 0,0; an unused product with a zero factor;
-- 65 products, none of them used; no room for the rows
pub others_refused : (turning 5 2 3 0 0 [] [] [] 0 0 0 ≡ refused 2)
    × (turning 0 2 3 0 0 [] [] [] 0 0 0 ≡ refused 3)
    × (turning 0 6 6 0 0 [] [] [] 0 0 0 ≡ refused 3)
    × (turning 0 0 0 0 0 [] [] [] 0 0 0 ≡ refused 3)
    × (turning 0 2 2 0 3 (1 ∷ 2 ∷ 0 ∷ []) (1 ∷ 2 ∷ 3 ∷ []) (1 ∷ 3 ∷ 2 ∷ []) 3 3 2 ≡ refused 7)
    × (turning 0 2 2 0 65 (replicate 65 1) (replicate 65 1) (0 ∷ 0 ∷ 0 ∷ []) 65 65 2 ≡ refused 8)
    × (turning 0 2 2 0 3 (1 ∷ 2 ∷ 3 ∷ []) (1 ∷ 2 ∷ 3 ∷ []) (1 ∷ 7 ∷ 2 ∷ []) 3 3 1 ≡ refused 9)
unfolding turning turnable kind_numbered poly_sizes mid_sizes within admit lengths passed wide zero_in list_of form_of bit
others_refused = (refl, refl, refl, refl, refl, refl, refl)
