-- Printing, as the code does it.
--   printed_one, printed_more   a last digit; digits and a last one
--   printed_fits                at most f digits
--   sets_append                 writing two parts is writing one after the other
--   print_none, print_one, print_more   what the code has done where it returns
--   bytes_step, bytes_end       one byte more of a copy, and all of them
-- Assumes nothing.
use Rattle.std.specs.Prelude.{ℕ, zero, suc, ◌+◌, ◌-◌, ◌/◌, ◌%◌, ◌<◌, ◌≤◌, ◌≡◌, refl, List, [], ◌∷◌, ◌++◌, Bool, true, false, cond, length, get_or, set, drop, ltb}
use Rattle.std.proofs.Common.{sym, ap, ◌∙◌, arith, add-one, add-zero, length-append, drop-cons, lt-ltb, le-ltb}
use Rattle.std.proofs.lemmas.List.Edits.{sets}
use Rattle.std.proofs.Math.Seq.{drop-length}
use Rattle.printing.specs.Print.{digit_byte, numeral_text}

-- ---- printing, in its cases
pub printed_one : (base f n : ℕ) → n < base → numeral_text base (suc f) n ≡ digit_byte n ∷ []
unfolding numeral_text
printed_one base f n h = rw (lt-ltb n base h)

pub printed_more : (base f n : ℕ) → base ≤ n → numeral_text base (suc f) n ≡ numeral_text base f (n / base) ++ (digit_byte (n % base) ∷ [])
unfolding numeral_text
printed_more base f n h = rw (le-ltb n base h)

-- ---- writing two parts
pub sets_append : (xs ys d : List ℕ) (i : ℕ) → sets d i (xs ++ ys) ≡ sets (sets d i xs) (i + length xs) ys
sets_append [] ys d i = rw add-zero
sets_append (x ∷ xs) ys d i = sets_append xs ys (set d i x) (suc i) ∙ ap (λ (n : ℕ). sets (sets (set d i x) (suc i) xs) n ys) (omega arith)

-- ---- what the code does at a place
pub print_none : (base f n at : ℕ) (out : List ℕ) → f ≡ 0 → (at ≡ at + length (numeral_text base f n)) × (out ≡ sets out at (numeral_text base f n))
unfolding numeral_text
print_none base f n at out h = rw h (omega arith, refl)

print_one' : (base f n at x : ℕ) (out o₁ : List ℕ) → n < base → x ≡ digit_byte n → o₁ ≡ set out at x
    → (at + 1 ≡ at + length (numeral_text base (suc f) n)) × (o₁ ≡ sets out at (numeral_text base (suc f) n))
print_one' base f n at x out o₁ h e o = rw (printed_one base f n h) (omega arith, o ∙ ap (set out at) e)

pub print_one : (base f n at x : ℕ) (out o₁ : List ℕ) → (f ≡ 0 → ⊥) → n < base → x ≡ digit_byte n → o₁ ≡ set out at x
    → (at + 1 ≡ at + length (numeral_text base f n)) × (o₁ ≡ sets out at (numeral_text base f n))
print_one base f n at x out o₁ nz h e o =
    let g : suc (f - 1) ≡ f = omega arith in
    rw g at (print_one' base (f - 1) n at x out o₁ h e o)

print_more' : (base f n at x e : ℕ) (out o₁ o₂ : List ℕ) → base ≤ n → e ≡ at + length (numeral_text base f (n / base))
    → o₁ ≡ sets out at (numeral_text base f (n / base)) → x ≡ digit_byte (n % base) → o₂ ≡ set o₁ e x
    → (e + 1 ≡ at + length (numeral_text base (suc f) n)) × (o₂ ≡ sets out at (numeral_text base (suc f) n))
print_more' base f n at x e out o₁ o₂ h he ho hx hs =
    rw (printed_more base f n h) (
      omega (arith, length-append (numeral_text base f (n / base)) (digit_byte (n % base) ∷ [])),
      hs ∙ rw (hx, ho, he) (sym (sets_append (numeral_text base f (n / base)) (digit_byte (n % base) ∷ []) out at)),
    )

pub print_more : (base f n at x e : ℕ) (out o₁ o₂ : List ℕ) → (f ≡ 0 → ⊥) → base ≤ n → e ≡ at + length (numeral_text base (f - 1) (n / base))
    → o₁ ≡ sets out at (numeral_text base (f - 1) (n / base)) → x ≡ digit_byte (n % base) → o₂ ≡ set o₁ e x
    → (e + 1 ≡ at + length (numeral_text base f n)) × (o₂ ≡ sets out at (numeral_text base f n))
print_more base f n at x e out o₁ o₂ nz h he ho hx hs =
    let g : suc (f - 1) ≡ f = omega arith in
    rw g at (print_more' base (f - 1) n at x e out o₁ o₂ h he ho hx hs)

pub printed_fits : (base f n : ℕ) → length (numeral_text base f n) ≤ f
unfolding numeral_text
printed_fits base zero n = omega arith
printed_fits base (suc f) n = go (ltb n base) (printed_fits base f (n / base))
  where
    go : (t : Bool) → length (numeral_text base f (n / base)) ≤ f → length (cond t (digit_byte n ∷ []) (numeral_text base f (n / base) ++ (digit_byte (n % base) ∷ []))) ≤ suc f
    go true ih = omega arith
    go false ih = omega (arith, length-append (numeral_text base f (n / base)) (digit_byte (n % base) ∷ []))

-- ---- copying
-- writing what is left leaves what writing the whole does
pub bytes_step : (s out o₁ : List ℕ) (at i x : ℕ) (w : List ℕ) → i < length s → x ≡ get_or s i 0 → o₁ ≡ set out (at + i) x
    → sets out (at + i) (drop i s) ≡ w → sets o₁ (at + (i + 1)) (drop (i + 1) s) ≡ w
bytes_step s out o₁ at i x w h e o inv =
    let a : sets out (at + i) (get_or s i 0 ∷ drop (suc i) s) ≡ w = rw (drop-cons s i 0 h) at inv in
    let b : at + (i + 1) ≡ suc (at + i) = omega arith in
    rw (o, e, b, add-one) a

pub bytes_end : (s out : List ℕ) (at i : ℕ) (w : List ℕ) → i ≡ length s → sets out (at + i) (drop i s) ≡ w → out ≡ w
bytes_end s out at i w h inv =
    let z : drop i s ≡ [] = rw (h, drop-length s) in
    rw z at inv
