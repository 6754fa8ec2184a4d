-- Masks and their widths.
--   shift_none   a mask shifted by n is zero exactly if it has no bit outside n bits
--   below_at     a word by its place
--   wide_below   no bit outside n bits: every mask is below 2^n
--   below_wide   and the other way round
--   wide_words   and a word, where n is at most 64
-- Assumes nothing.
use Rattle.std.specs.Prelude.{ℕ, zero, suc, ◌*◌, ◌/◌, ◌^◌, ◌<◌, ◌≤◌, ◌≡◌, refl, List, [], ◌∷◌, Bool, true, false, ◌||◌, not, length, get_or, ltb, eqb}
use Rattle.std.proofs.Common.{ap₂, arith, div-lt_iff_lt-mul, one-mul, pow_pos, pow_mono, eq-eqb, ne_eqb, ltb-true, ltb-false, lt-ltb}
use Rattle.std.proofs.Math.Nat.{div-eq_of_lt}
use Rattle.words.specs.Masks.{wide}

pub shift_none : (x n : ℕ) → eqb (x / 2 ^ n) 0 ≡ ltb x (2 ^ n)
shift_none x n = go (ltb x (2 ^ n)) refl
  where
    go : (t : Bool) → ltb x (2 ^ n) ≡ t → eqb (x / 2 ^ n) 0 ≡ t
    go true e = eq-eqb (x / 2 ^ n) 0 (div-eq_of_lt (ltb-true x (2 ^ n) e))
    go false e = ne_eqb (x / 2 ^ n) 0 (λ z. let h : x < 1 * 2 ^ n = (div-lt_iff_lt-mul (pow_pos n)).0 (omega arith) in omega (arith, ltb-false x (2 ^ n) e, one-mul (2 ^ n)))

-- every word of a list is below b
abbrev pub AllBelow : ℕ → List ℕ → Type 0
AllBelow b [] = Unit {0}
AllBelow b (x ∷ xs) = (x < b) × AllBelow b xs

pub below_at : (b : ℕ) (xs : List ℕ) (i : ℕ) → AllBelow b xs → i < length xs → get_or xs i 0 < b
below_at b [] i h l = absurd (omega arith)
below_at b (x ∷ xs) zero h l = h.0
below_at b (x ∷ xs) (suc i) h l = below_at b xs i h.1 (omega arith)

pub wide_below : (n b : ℕ) (xs : List ℕ) → 2 ^ n ≤ b → wide n xs ≡ false → AllBelow b xs
unfolding wide
wide_below n b [] h e = tt
wide_below n b (x ∷ xs) h e = go (ltb x (2 ^ n)) refl (wide_below n b xs h) e
  where
    go : (t : Bool) → ltb x (2 ^ n) ≡ t → (wide n xs ≡ false → AllBelow b xs) → (not t || wide n xs) ≡ false → (x < b) × AllBelow b xs
    go true l ih f = (let k = ltb-true x (2 ^ n) l in omega arith, ih f)
    go false l ih f = absurd (let q : ◌≡◌ {A = ℕ} 0 1 = cc in omega arith)

pub below_wide : (n : ℕ) (xs : List ℕ) → AllBelow (2 ^ n) xs → wide n xs ≡ false
unfolding wide
below_wide n [] h = refl
below_wide n (x ∷ xs) h = ap₂ (λ (a b : Bool). not a || b) (lt-ltb x (2 ^ n) h.0) (below_wide n xs h.1)

pub wide_words : (n : ℕ) (xs : List ℕ) → n ≤ 64 → wide n xs ≡ false → AllBelow (2 ^ 64) xs
wide_words n xs h e = wide_below n (2 ^ 64) xs (pow_mono {i = n} h) e
