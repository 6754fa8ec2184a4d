-- Sums of multiples of vectors, spans, and independence.
--   combination cs xs == c₀ x₀ + c₁ x₁ + ..
--   Span xs v         == v is a combination of the list xs, one coefficient a vector
--   Within xs ys      == each combination of xs is one of ys
--   SameSpan xs ys    == xs and ys have the same combinations
--   Independent xs    == no combination of xs is zero but the one whose coefficients are all 0
-- Document 01: "A choice of menu forms computes the targets if its span contains T; the empty choice spans only zero."
-- Laws: laws/Span, proofs/laws/Independent. Assumes nothing.
use Rattle.std.specs.Prelude.{◌≡◌, length}
use mathlib.Core.List.{List, [], ◌∷◌, Memᴰ}
use Rattle.linear.specs.Space.{Space}

module _ (S : Space) where
  open S use {fld, Vec, nul, add, scale}
  open fld use {K, 𝟘}

  unfoldable pub combination : List K → List Vec → Vec
  combination [] xs = nul
  combination (c ∷ cs) [] = nul
  combination (c ∷ cs) (x ∷ xs) = add (scale c x) (combination cs xs)

  pub record Span (xs : List Vec) (v : Vec) : Type 0 where
    pub coefficients : List K
    pub count : length coefficients ≡ length xs
    pub sum : v ≡ combination coefficients xs

  abbrev pub Within : List Vec → List Vec → Type 0
  Within xs ys = (v : Vec) → Span xs v → Span ys v

  abbrev pub SameSpan : List Vec → List Vec → Type 0
  SameSpan xs ys = Within xs ys × Within ys xs

  abbrev pub AllZero : List K → Type 0
  AllZero cs = (c : K) → Memᴰ c cs → c ≡ 𝟘

  abbrev pub Independent : List Vec → Type 0
  Independent xs = (cs : List K) → length cs ≡ length xs → combination cs xs ≡ nul → AllZero cs
