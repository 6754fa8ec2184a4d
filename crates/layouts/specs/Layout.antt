-- How forms, factors and rows stand in words: the seam between the theory, which is about vectors, and what is handed in and out, which are words.
--   form_space l       == the space whose vectors the forms of the layout l are
--   joined low high   == the vector of two words over two elements
--   planes n t        == the vector of two words over three elements: the mask of the nonzero digits, and of the twos. A two outside the first is not looked at
--   pairs f ws        == the words two by two, each pair read by f; a last odd word is not looked at
--   apart f g vs      == two words for each of vs, one by f and one by g
--   vectors l ws      == the vectors that the words are
--   words l vs        == the words that the vectors are
--   form_in l ws       == the form that the first words are, of a form handed in by itself
--   form_words l n     == how many words n forms have
--   row_words l n      == how many words n rows of a formula have: a row has a digit for each product, at most 64
--   factor_words l n v == how many words n factors in v variables have
-- Every list of words reads as some list of vectors, so nothing is asked of words that are read; the words of vectors are read back as they were (vectors_words,
-- laws/Layout). Narrow is the layout in use: its words are its vectors. Assumes nothing.
use Rattle.std.specs.Prelude.{◌≡◌, refl, Bool, ◌&&◌, cond, List, [], ◌∷◌, ℕ, ◌+◌, ◌*◌, ◌/◌, ◌%◌, ◌^◌, ltb, get_or}
use Rattle.std.proofs.Common.{sym, ap, ◌∙◌}
use Rattle.std.specs.Int.Bits.{bit_and}
use Rattle.linear.specs.Space.{Space}
use Rattle.linear.specs.Bit.{bit}
use Rattle.linear.specs.Word.{word}
use Rattle.linear.specs.Planes.{Planes}
use Rattle.linear.specs.Trit.{trits}
use Rattle.linear.specs.laws.Bit.{bit_of_and, bit_ext}
use Rattle.linear.specs.laws.Finite.{bit_law}
use Rattle.layouts.specs.declared.Layout.{Layout}
use Rattle.layouts.specs.declared.Layout.TheVariants as layout

-- the coordinates of a word
abbrev pub word_bits : ℕ
word_bits = 64

abbrev pub form_space : Layout → Space
form_space layout.Narrow = word
form_space layout.Wide = word
form_space layout.Ternary = trits

-- ---- two words a form
unfoldable pub joined : ℕ → ℕ → ℕ
joined low high = high * 2 ^ word_bits + low

pub and_twice : (n t : ℕ) → bit_and n (bit_and n t) ≡ bit_and n t
and_twice n t =
    bit_ext (bit_and n (bit_and n t)) (bit_and n t)
    (λ i. bit_of_and n (bit_and n t) i ∙ ap (λ (x : Bool). bit n i && x) (bit_of_and n t i)
    ∙ bit_law (λ a b c. a && (a && b)) (λ a b c. a && b) refl (bit n i) (bit t i) (bit t i) ∙ sym (bit_of_and n t i))

unfoldable pub planes : ℕ → ℕ → Planes
planes n t = ((n, bit_and n t), and_twice n t)

unfoldable pub pairs : {A : Type 0} → (ℕ → ℕ → A) → List ℕ → List A
pairs f [] = []
pairs f (a ∷ []) = []
pairs f (a ∷ b ∷ ws) = f a b ∷ pairs f ws

unfoldable pub apart : {A : Type 0} → (f g : A → ℕ) → List A → List ℕ
apart f g [] = []
apart f g (v ∷ vs) = f v ∷ g v ∷ apart f g vs

-- ---- words read, and written
abbrev pub vectors : (l : Layout) → List ℕ → List (form_space l).Vec
vectors layout.Narrow ws = ws
vectors layout.Wide ws = pairs joined ws
vectors layout.Ternary ws = pairs planes ws

abbrev pub words : (l : Layout) → List (form_space l).Vec → List ℕ
words layout.Narrow vs = vs
words layout.Wide vs = apart (λ v. v % 2 ^ word_bits) (λ v. v / 2 ^ word_bits) vs
words layout.Ternary vs = apart (λ v. v.0.0) (λ v. v.0.1) vs

abbrev pub form_in : (l : Layout) → List ℕ → (form_space l).Vec
form_in layout.Narrow ws = get_or ws 0 0
form_in layout.Wide ws = joined (get_or ws 0 0) (get_or ws 1 0)
form_in layout.Ternary ws = planes (get_or ws 0 0) (get_or ws 1 0)

-- ---- how many words
abbrev pub form_words : Layout → ℕ → ℕ
form_words layout.Narrow n = n
form_words layout.Wide n = 2 * n
form_words layout.Ternary n = 2 * n

abbrev pub row_words : Layout → ℕ → ℕ
row_words layout.Narrow n = n
row_words layout.Wide n = n
row_words layout.Ternary n = 2 * n

abbrev pub factor_words : Layout → ℕ → ℕ → ℕ
factor_words layout.Narrow n v = n
factor_words layout.Wide n v = cond (ltb word_bits v) (2 * n) n
factor_words layout.Ternary n v = 2 * n
