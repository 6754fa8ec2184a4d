-- Laws over a type with few elements, proved by one computed test.
--   all_of p l         == every member of l passes p
--   everywhere all p  == p holds at every choice of four elements
--   by_cases          if the test computes to true, p holds everywhere
--   equal_by_cases    two functions of three elements that agree everywhere are equal; `bit_law` is the case of bits
-- Assumes nothing.
use Rattle.std.specs.Prelude.{◌≡◌, refl, Bool, true, false, ◌&&◌}
use Rattle.std.proofs.lemmas.Bool.{false≢true}
use Rattle.std.proofs.Math.Bool.{and-eq-true_iff}
use mathlib.Core.List.Memᴰ
use mathlib.Core.List.{List, [], ◌∷◌, Memᴰ}
use Rattle.linear.specs.laws.Span.{mem_cons}

abbrev pub all_of : {A : Type 0} → (A → Bool) → List A → Bool
all_of p [] = true
all_of p (x ∷ l) = p x && all_of p l

pub all_of_yes : {A : Type 0} (p : A → Bool) (l : List A) → all_of p l ≡ true → (x : A) → Memᴰ x l → p x ≡ true
all_of_yes p [] e = λ x m. absurd (Memᴰ.not-nil m)
all_of_yes p (y ∷ l) e = let r = (and-eq-true_iff (p y) (all_of p l)).0 e in mem_cons {P = λ x. p x ≡ true} r.0 (all_of_yes p l r.1)

module _ {A : Type 0} (all : List A) where
  abbrev pub everywhere : (A → A → A → A → Bool) → Bool
  everywhere p = all_of (λ a. all_of (λ b. all_of (λ c. all_of (λ d. p a b c d) all) all) all) all

  module _ (each : (a : A) → Memᴰ a all) where
    pub by_cases : (p : A → A → A → A → Bool) → everywhere p ≡ true → (a b c d : A) → p a b c d ≡ true
    by_cases p e a b c d =
        all_of_yes (λ d. p a b c d) all
        (all_of_yes (λ c. all_of (λ d. p a b c d) all) all
        (all_of_yes (λ b. all_of (λ c. all_of (λ d. p a b c d) all) all) all
        (all_of_yes (λ a. all_of (λ b. all_of (λ c. all_of (λ d. p a b c d) all) all) all) all e a (each a)) b (each b)) c (each c)) d (each d)

    pub equal_by_cases : {B : Type 0} (same : B → B → Bool) → ((x y : B) → same x y ≡ true → x ≡ y)
        → (f g : A → A → A → B) → everywhere (λ a b c d. same (f a b c) (g a b c)) ≡ true → (a b c : A) → f a b c ≡ g a b c
    equal_by_cases same same_yes f g e a b c = same_yes (f a b c) (g a b c) (by_cases (λ a b c d. same (f a b c) (g a b c)) e a b c a)

-- ---- bits
abbrev pub bits : List Bool
bits = false ∷ true ∷ []

pub bits_all : (a : Bool) → Memᴰ a bits
bits_all false = Memᴰ.head refl
bits_all true = Memᴰ.tail (Memᴰ.head refl)

abbrev pub same_bit : Bool → Bool → Bool
same_bit true true = true
same_bit true false = false
same_bit false true = false
same_bit false false = true

pub same_bit_yes : (a b : Bool) → same_bit a b ≡ true → a ≡ b
same_bit_yes true true e = refl
same_bit_yes true false e = absurd (false≢true e)
same_bit_yes false true e = absurd (false≢true e)
same_bit_yes false false e = refl

pub bit_law : (f g : Bool → Bool → Bool → Bool) → everywhere bits (λ a b c d. same_bit (f a b c) (g a b c)) ≡ true → (a b c : Bool) → f a b c ≡ g a b c
bit_law = equal_by_cases bits bits_all same_bit same_bit_yes
