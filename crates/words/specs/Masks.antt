-- Tests on masks.
--   outside n x == x has a bit outside n bits
--   wide n xs   == some mask of xs has one
--   zero_in xs   == some mask of xs is zero
-- Document 01: "A form, factor or row has a bit outside its width"; "a factor is zero". Assumes nothing.
use Rattle.std.specs.Prelude.{ℕ, ◌^◌, List, [], ◌∷◌, Bool, false, ◌||◌, not, ltb, eqb}

abbrev pub outside : ℕ → ℕ → Bool
outside n x = not (ltb x (2 ^ n))

unfoldable pub wide : ℕ → List ℕ → Bool
wide n [] = false
wide n (x ∷ xs) = outside n x || wide n xs

unfoldable pub zero_in : List ℕ → Bool
zero_in [] = false
zero_in (x ∷ xs) = eqb x 0 || zero_in xs
