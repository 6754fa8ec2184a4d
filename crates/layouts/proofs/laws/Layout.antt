-- The words of vectors are read back as they were, and are as many as said.
--   vectors_words   what is read of the words of vectors are these vectors
--   form_words_law      likewise of a form by itself
--   words_length    how many words
--   apart_length    two for each
--   some_words, some_rows   n forms have n words or more, and so have n rows
--   few_rows        n rows have 2n words at most
--   words_same      vectors with the same words are the same
-- Assumes nothing.
use Rattle.std.specs.Prelude.{◌≡◌, ℕ, ◌*◌, ◌/◌, ◌%◌, ◌^◌, ◌≤◌, length}
use Rattle.std.proofs.Math.Path.{refl, ap₂}
use Rattle.std.proofs.Common.{sym, ap, ◌∙◌, arith}
use mathlib.Core.List.{List, [], ◌∷◌}
use Rattle.linear.specs.Planes.{Planes}
use Rattle.linear.specs.laws.Planes.{planes_path}
use Rattle.layouts.specs.declared.Layout.{Layout}
use Rattle.layouts.specs.declared.Layout.TheVariants as layout
use Rattle.layouts.specs.Layout.{form_space, joined, planes, pairs, apart, vectors, words, form_in, form_words, row_words}

-- ---- two words a form, whatever they mean
module _ {A : Type 0} (f g : A → ℕ) (read : ℕ → ℕ → A) (back : (v : A) → read (f v) (g v) ≡ v) where
  pairs_apart : (vs : List A) → pairs read (apart f g vs) ≡ vs
  unfolding pairs apart
  pairs_apart [] = refl
  pairs_apart (v ∷ vs) = ap₂ {A = A} {B = List A} (λ x r. x ∷ r) (back v) (pairs_apart vs)

pub apart_length : {A : Type 0} (f g : A → ℕ) (vs : List A) → length (apart f g vs) ≡ 2 * length vs
unfolding apart
apart_length f g [] = refl
apart_length f g (v ∷ vs) = omega (arith, apart_length f g vs)

joined_back : (v : ℕ) → joined (v % 2 ^ 64) (v / 2 ^ 64) ≡ v
unfolding joined
joined_back v = omega arith

planes_back : (v : Planes) → planes v.0.0 v.0.1 ≡ v
unfolding planes
planes_back v = planes_path refl v.1

pub vectors_words : (l : Layout) (vs : List (form_space l).Vec) → vectors l (words l vs) ≡ vs
vectors_words layout.Narrow vs = refl
vectors_words layout.Wide vs = pairs_apart (λ v. v % 2 ^ 64) (λ v. v / 2 ^ 64) joined joined_back vs
vectors_words layout.Ternary vs = pairs_apart (λ v. v.0.0) (λ v. v.0.1) planes planes_back vs

-- a form by itself
pub form_words_law : (l : Layout) (v : (form_space l).Vec) → form_in l (words l (v ∷ [])) ≡ v
unfolding apart
form_words_law layout.Narrow v = refl
form_words_law layout.Wide v = joined_back v
form_words_law layout.Ternary v = planes_back v

pub words_length : (l : Layout) (vs : List (form_space l).Vec) → length (words l vs) ≡ form_words l (length vs)
words_length layout.Narrow vs = refl
words_length layout.Wide vs = apart_length (λ v. v % 2 ^ 64) (λ v. v / 2 ^ 64) vs
words_length layout.Ternary vs = apart_length (λ v. v.0.0) (λ v. v.0.1) vs

-- n forms have n words or more
pub some_words : (l : Layout) (n : ℕ) → n ≤ form_words l n
some_words layout.Narrow n = omega arith
some_words layout.Wide n = omega arith
some_words layout.Ternary n = omega arith

-- likewise of rows
pub some_rows : (l : Layout) (n : ℕ) → n ≤ row_words l n
some_rows layout.Narrow n = omega arith
some_rows layout.Wide n = omega arith
some_rows layout.Ternary n = omega arith

-- and no more than two each
pub few_rows : (l : Layout) (n : ℕ) → row_words l n ≤ 2 * n
few_rows layout.Narrow n = omega arith
few_rows layout.Wide n = omega arith
few_rows layout.Ternary n = omega arith

pub words_same : (l : Layout) (us vs : List (form_space l).Vec) → words l us ≡ words l vs → us ≡ vs
words_same l us vs e = sym (vectors_words l us) ∙ ap (vectors l) e ∙ vectors_words l vs
