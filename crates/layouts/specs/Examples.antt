-- Words read in each layout. Assumes nothing.
use Rattle.std.specs.Prelude.{◌≡◌, refl, List, [], ◌∷◌, ℕ}
use Rattle.linear.specs.Planes.{Three, n0, n1, n2, coord3}
use Rattle.linear.specs.Bit.{bit}
use Rattle.layouts.specs.declared.Layout.TheVariants as layout
use Rattle.layouts.specs.Layout.{joined, planes, pairs, vectors}

-- Two words, low first.
wide_read : vectors layout.Wide (5 ∷ 1 ∷ 7 ∷ 0 ∷ []) ≡ 18446744073709551621 ∷ 7 ∷ []
unfolding pairs joined
wide_read = refl

-- Digits 1, 0, 2: the nonzero ones are 0 and 2, the only two is 2. A two outside, at 1, is not looked at.
abbrev digits : ℕ → ℕ → List Three
digits n t = coord3 (planes n t) 0 ∷ coord3 (planes n t) 1 ∷ coord3 (planes n t) 2 ∷ []

ternary_read : digits 5 4 ≡ n1 ∷ n0 ∷ n2 ∷ []
unfolding planes bit
ternary_read = refl

ternary_masked : digits 5 6 ≡ n1 ∷ n0 ∷ n2 ∷ []
unfolding planes bit
ternary_masked = refl
