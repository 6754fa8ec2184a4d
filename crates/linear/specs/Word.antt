-- Forms with coefficients 0 and 1: the field of two elements, and words as vectors over it.
--   two       == the field of two elements
--   Below w C == every member of C is below 2 ^ w
--   word      == the numbers, by their binary digits, with exclusive or as sum. A form of w bits is a number below 2 ^ w.
-- Document 01: "with coefficients 0 and 1 (sum is exclusive or)". Laws: proofs/laws/Word. Assumes nothing.
use Rattle.std.specs.Prelude.{◌≡◌, refl, ◌≢◌, Bool, true, false, ◌&&◌, ℕ, zero, suc, ◌^◌, ◌<◌}
use Rattle.std.proofs.Common.{true≢false, suc-ne-zero}
use Rattle.std.proofs.lemmas.Bool.{false≢true}
use mathlib.Core.List.{List, Memᴰ}
use Rattle.std.specs.Int.Bits.{bit_xor}
use Rattle.linear.specs.Space.{Field, Space}
use Rattle.linear.specs.Bit.{bit, top, xor_b}
use Rattle.linear.specs.laws.Finite.{bit_law}
use Rattle.linear.specs.laws.Bit.{bit_zero, bit_of_xor, bit_ext, top_above, top_one}

abbrev pub two : Field
two =
    record {
      K = Bool;
      𝟘 = false;
      𝟙 = true;
      plus = xor_b;
      times = ◌&&◌;
      neg = λ a. a;
      inv = λ a. a;
      plus_assoc = bit_law (λ a b c. xor_b (xor_b a b) c) (λ a b c. xor_b a (xor_b b c)) refl;
      plus_comm = λ a b. bit_law (λ a b c. xor_b a b) (λ a b c. xor_b b a) refl a b a;
      plus_zero = λ a. bit_law (λ a b c. xor_b a false) (λ a b c. a) refl a a a;
      plus_neg = λ a. bit_law (λ a b c. xor_b a a) (λ a b c. false) refl a a a;
      times_assoc = bit_law (λ a b c. (a && b) && c) (λ a b c. a && (b && c)) refl;
      times_comm = λ a b. bit_law (λ a b c. a && b) (λ a b c. b && a) refl a b a;
      times_one = λ a. bit_law (λ a b c. a && true) (λ a b c. a) refl a a a;
      times_plus = bit_law (λ a b c. a && xor_b b c) (λ a b c. xor_b (a && b) (a && c)) refl;
      inv_times = invert;
      one_ne_zero = true≢false;
    }
  where
    invert : (a : Bool) → a ≢ false → a && a ≡ true
    invert true h = refl
    invert false h = absurd (h refl)

-- v times a bit, and the test for 0
abbrev pub scale_w : Bool → ℕ → ℕ
scale_w true v = v
scale_w false v = 0

abbrev pub is_zero : ℕ → Bool
is_zero zero = true
is_zero (suc n) = false

abbrev pub word : Space
word =
    record {
      fld = two;
      Vec = ℕ;
      nul = 0;
      add = bit_xor;
      scale = scale_w;
      coord = bit;
      lead = top;
      is_nul = is_zero;
      coord_nul = bit_zero;
      coord_add = bit_of_xor;
      coord_scale = bit_scale;
      ext = bit_ext;
      lead_above = top_above;
      lead_ne = top_one;
      is_nul_yes = zero_yes;
      is_nul_no = zero_no;
    }
  where
    bit_scale : (c : Bool) (v i : ℕ) → bit (scale_w c v) i ≡ c && bit v i
    bit_scale true v i = refl
    bit_scale false v i = bit_zero i

    zero_yes : (v : ℕ) → is_zero v ≡ true → v ≡ 0
    zero_yes zero e = refl
    zero_yes (suc v) e = absurd (false≢true e)

    zero_no : (v : ℕ) → is_zero v ≡ false → v ≢ 0
    zero_no zero e q = true≢false e
    zero_no (suc v) e q = suc-ne-zero v q

-- every member is below 2 ^ w
abbrev pub Below : ℕ → List ℕ → Type 0
Below w C = (x : ℕ) → Memᴰ x C → x < 2 ^ w
