-- Tests over a whole list, and what a turn of a loop over a list does: the list from i on is the element at i and the list from i + 1 on.
--   next                 that, in the code's terms
--   turn, done           the turn at i of a loop that asks a test of each element, and its end
--   any_wide, any_zero   whether some mask is outside its width, or zero, as a test of each
-- Assumes nothing.
use Rattle.std.specs.Prelude.{◌≡◌, refl, Bool, false, ◌||◌, List, [], ◌∷◌, ℕ, ◌+◌, ◌<◌, ◌≤◌, length, get_or, drop, eqb}
use Rattle.std.proofs.Common.{sym, ap, ◌∙◌, add-one, drop_of_length-le, drop-cons}
use Rattle.std.specs.List.{list_any}
use Rattle.words.specs.Masks.{outside, wide, zero_in}

pub next : (xs : List ℕ) (i : ℕ) → i < length xs → drop i xs ≡ get_or xs i 0 ∷ drop (i + 1) xs
next xs i h = drop-cons xs i 0 h ∙ ap (λ (k : ℕ). get_or xs i 0 ∷ drop k xs) (sym (add-one i))

-- f asks a test of each element in turn: the turn at i, whose test says s, and the end
pub turn : (f : List ℕ → Bool) (xs : List ℕ) (i : ℕ) → i < length xs → {u s S : Bool} → f (get_or xs i 0 ∷ drop (i + 1) xs) ≡ u || f (drop (i + 1) xs)
    → f (drop i xs) ≡ S → u ≡ s → s || f (drop (i + 1) xs) ≡ S
turn f xs i h step inv e = sym (ap (λ (t : Bool). t || f (drop (i + 1) xs)) e) ∙ sym step ∙ sym (ap f (next xs i h)) ∙ inv

pub done : (f : List ℕ → Bool) (xs : List ℕ) (i : ℕ) → length xs ≤ i → f [] ≡ false → {S : Bool} → f (drop i xs) ≡ S → false ≡ S
done f xs i h none inv = sym none ∙ sym (ap f (drop_of_length-le xs h)) ∙ inv

pub any_wide : (n : ℕ) (xs : List ℕ) → list_any (outside n) xs ≡ wide n xs
unfolding wide
any_wide n [] = refl
any_wide n (x ∷ xs) = ap (λ (t : Bool). outside n x || t) (any_wide n xs)

pub any_zero : (xs : List ℕ) → list_any (λ x. eqb x 0) xs ≡ zero_in xs
unfolding zero_in
any_zero [] = refl
any_zero (x ∷ xs) = ap (λ (t : Bool). eqb x 0 || t) (any_zero xs)
