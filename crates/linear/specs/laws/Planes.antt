-- The laws that make the planes of `Planes` a space over the field of three elements: each is one computed test over the bits or elements, and `bit_ext`.
-- Assumes nothing.
use Rattle.std.specs.Prelude.{◌≡◌, refl, ◌≢◌, Bool, true, false, not, ◌&&◌, ◌||◌, ℕ, zero, suc, ◌<◌}
use Rattle.std.proofs.Common.{sym, ap, ap₂, ◌∙◌, true≢false}
use mathlib.Core.HLevel.{Σ_prop_path}
use Rattle.std.proofs.lemmas.Bool.{false≢true}
use mathlib.Core.List.{List, [], ◌∷◌, Memᴰ}
use Rattle.std.proofs.Math.Nat.{ℕ_set}
use Rattle.std.specs.Int.Bits.{bit_xor, bit_and, and_zero_l}
use Rattle.linear.specs.Bit.{bit, top, xor_b}
use Rattle.linear.specs.Planes.{Three, n0, n1, n2, plus3, neg3, times3, trit, Planes, coord3, nul3, sum_nonzero, sum_twos}
use Rattle.linear.specs.Word.{is_zero}
use Rattle.linear.specs.laws.Finite.{everywhere, by_cases, equal_by_cases, bits, bits_all, same_bit, same_bit_yes}
use Rattle.linear.specs.laws.Bit.{bit_of_xor, bit_of_and, bit_of_or, bit_zero, bit_ext, top_above, top_one}

-- ---- the elements
abbrev pub trits3 : List Three
trits3 = n0 ∷ n1 ∷ n2 ∷ []

pub trits3_all : (a : Three) → Memᴰ a trits3
trits3_all n0 = Memᴰ.head refl
trits3_all n1 = Memᴰ.tail (Memᴰ.head refl)
trits3_all n2 = Memᴰ.tail (Memᴰ.tail (Memᴰ.head refl))

abbrev pub nonzero : Three → Bool
nonzero n0 = false
nonzero n1 = true
nonzero n2 = true

abbrev pub is_two : Three → Bool
is_two n0 = false
is_two n1 = false
is_two n2 = true

abbrev pub same3 : Three → Three → Bool
same3 a b = same_bit (nonzero a) (nonzero b) && same_bit (is_two a) (is_two b)

pub same3_yes : (a b : Three) → same3 a b ≡ true → a ≡ b
same3_yes n0 n0 e = refl
same3_yes n0 n1 e = absurd (false≢true e)
same3_yes n0 n2 e = absurd (false≢true e)
same3_yes n1 n0 e = absurd (false≢true e)
same3_yes n1 n1 e = refl
same3_yes n1 n2 e = absurd (false≢true e)
same3_yes n2 n0 e = absurd (false≢true e)
same3_yes n2 n1 e = absurd (false≢true e)
same3_yes n2 n2 e = refl

pub trit_law : (f g : Three → Three → Three → Three) → everywhere trits3 (λ a b c d. same3 (f a b c) (g a b c)) ≡ true → (a b c : Three) → f a b c ≡ g a b c
trit_law = equal_by_cases trits3 trits3_all same3 same3_yes

pub one_not_zero : n1 ≢ n0
one_not_zero e = true≢false (ap nonzero e)

-- ---- laws of bits under the condition that the second of each pair is among the first
abbrev valid : Bool → Bool → Bool
valid a b = same_bit (a && b) b

same_bit_refl : (a b : Bool) → a ≡ b → same_bit a b ≡ true
same_bit_refl true true e = refl
same_bit_refl true false e = absurd (true≢false e)
same_bit_refl false true e = absurd (false≢true e)
same_bit_refl false false e = refl

under : (g h q : Bool) → not (g && h) || q ≡ true → g ≡ true → h ≡ true → q ≡ true
under true true q e g h = e
under true false q e g h = absurd (false≢true h)
under false h q e g k = absurd (false≢true g)

-- p holds of every two pairs of valid bits
pub valid_law : (p : Bool → Bool → Bool → Bool → Bool) → everywhere bits (λ a b c d. not (valid a b && valid c d) || p a b c d) ≡ true
    → (a b c d : Bool) → a && b ≡ b → c && d ≡ d → p a b c d ≡ true
valid_law p e a b c d h k =
    under (valid a b) (valid c d) (p a b c d) (by_cases bits bits_all (λ a b c d. not (valid a b && valid c d) || p a b c d) e a b c d)
    (same_bit_refl (a && b) b h) (same_bit_refl (c && d) d k)

-- ---- vectors
pub planes_path : {u v : Planes} → u.0.0 ≡ v.0.0 → u.0.1 ≡ v.0.1 → u ≡ v
planes_path {u} {v} p q = Σ_prop_path (λ (x : ℕ × ℕ). ℕ_set (bit_and x.0 x.1) x.1) (λ i. (p i, q i))

pub within : (v : Planes) (i : ℕ) → bit v.0.0 i && bit v.0.1 i ≡ bit v.0.1 i
within v i = sym (bit_of_and v.0.0 v.0.1 i) ∙ ap (λ (x : ℕ). bit x i) v.1

abbrev nonzero_b : Bool → Bool → Bool → Bool → Bool
nonzero_b a b c d = xor_b a c || xor_b (a && c) ((a && c) && xor_b b d)

abbrev twos_b : Bool → Bool → Bool → Bool → Bool
twos_b a b c d = (xor_b a c && xor_b b d) || xor_b (a && c) ((a && c) && (b || d))

bit_nonzero : (a b c d i : ℕ) → bit (sum_nonzero a b c d) i ≡ nonzero_b (bit a i) (bit b i) (bit c i) (bit d i)
unfolding sum_nonzero
bit_nonzero a b c d i = simp (bit_of_xor, bit_of_and, bit_of_or)

bit_twos : (a b c d i : ℕ) → bit (sum_twos a b c d) i ≡ twos_b (bit a i) (bit b i) (bit c i) (bit d i)
unfolding sum_twos
bit_twos a b c d i = simp (bit_of_xor, bit_of_and, bit_of_or)

pub sum_within : (u v : Planes)
    → bit_and (sum_nonzero u.0.0 u.0.1 v.0.0 v.0.1) (sum_twos u.0.0 u.0.1 v.0.0 v.0.1) ≡ sum_twos u.0.0 u.0.1 v.0.0
    v.0.1
sum_within u v = bit_ext (bit_and n t) t (λ i. bit_of_and n t i ∙ ap₂ ◌&&◌ (at_n i) (at_t i) ∙ here i ∙ sym (at_t i))
  where
    n : ℕ
    n = sum_nonzero u.0.0 u.0.1 v.0.0 v.0.1

    t : ℕ
    t = sum_twos u.0.0 u.0.1 v.0.0 v.0.1

    at_n : (i : ℕ) → bit n i ≡ nonzero_b (bit u.0.0 i) (bit u.0.1 i) (bit v.0.0 i) (bit v.0.1 i)
    at_n i = bit_nonzero u.0.0 u.0.1 v.0.0 v.0.1 i

    at_t : (i : ℕ) → bit t i ≡ twos_b (bit u.0.0 i) (bit u.0.1 i) (bit v.0.0 i) (bit v.0.1 i)
    at_t i = bit_twos u.0.0 u.0.1 v.0.0 v.0.1 i

    here : (i : ℕ) → nonzero_b (bit u.0.0 i) (bit u.0.1 i) (bit v.0.0 i) (bit v.0.1 i) && twos_b (bit u.0.0 i) (bit u.0.1 i) (bit
        v.0.0 i) (bit v.0.1 i)
        ≡ twos_b (bit u.0.0 i) (bit u.0.1 i) (bit v.0.0 i) (bit v.0.1 i)
    here i =
        same_bit_yes _ _
        (valid_law (λ a b c d. same_bit (nonzero_b a b c d && twos_b a b c d) (twos_b a b c d)) refl
        (bit u.0.0 i) (bit u.0.1 i) (bit v.0.0 i) (bit v.0.1 i) (within u i) (within v i))

abbrev pub add3 : Planes → Planes → Planes
add3 u v = ((sum_nonzero u.0.0 u.0.1 v.0.0 v.0.1, sum_twos u.0.0 u.0.1 v.0.0 v.0.1), sum_within u v)

-- the double: the ones become twos and the twos ones
pub double_within : (v : Planes) → bit_and v.0.0 (bit_xor v.0.0 v.0.1) ≡ bit_xor v.0.0 v.0.1
double_within v =
    bit_ext (bit_and a (bit_xor a b)) (bit_xor a b)
    (λ i. bit_of_and a (bit_xor a b) i ∙ ap (λ (x : Bool). bit a i && x) (bit_of_xor a b i)
    ∙ same_bit_yes _ _ (valid_law (λ a b c d. same_bit (a && xor_b a b) (xor_b a b)) refl (bit a i) (bit b i) (bit a i) (bit b i) (within v i) (within v i))
    ∙ sym (bit_of_xor a b i))
  where
    a : ℕ
    a = v.0.0

    b : ℕ
    b = v.0.1

abbrev pub scale3 : Three → Planes → Planes
scale3 n0 v = nul3
scale3 n1 v = v
scale3 n2 v = ((v.0.0, bit_xor v.0.0 v.0.1), double_within v)

-- ---- coordinates
pub at_nul : (i : ℕ) → coord3 nul3 i ≡ n0
at_nul i = ap₂ trit (bit_zero i) (bit_zero i)

pub at_add : (u v : Planes) (i : ℕ) → coord3 (add3 u v) i ≡ plus3 (coord3 u i) (coord3 v i)
at_add u v i =
    ap₂ trit (bit_nonzero u.0.0 u.0.1 v.0.0 v.0.1 i) (bit_twos u.0.0 u.0.1 v.0.0 v.0.1 i)
    ∙ same3_yes _ _
    (valid_law (λ a b c d. same3 (trit (nonzero_b a b c d) (twos_b a b c d)) (plus3 (trit a b) (trit c d))) refl
    (bit u.0.0 i) (bit u.0.1 i) (bit v.0.0 i) (bit v.0.1 i) (within u i) (within v i))

pub at_scale : (c : Three) (v : Planes) (i : ℕ) → coord3 (scale3 c v) i ≡ times3 c (coord3 v i)
at_scale n0 v i = at_nul i
at_scale n1 v i = refl
at_scale n2 v i =
    ap (trit (bit v.0.0 i)) (bit_of_xor v.0.0 v.0.1 i)
    ∙ equal_by_cases bits bits_all same3 same3_yes (λ a b c. trit a (xor_b a b)) (λ a b c. neg3 (trit a b)) refl (bit v.0.0 i) (bit v.0.1 i) true

-- the planes, from the coordinates
pub nonzero_bit : (v : Planes) (i : ℕ) → nonzero (coord3 v i) ≡ bit v.0.0 i
nonzero_bit v i =
    same_bit_yes _ _
    (valid_law (λ a b c d. same_bit (nonzero (trit a b)) a) refl (bit v.0.0 i) (bit v.0.1 i) (bit v.0.0 i) (bit v.0.1 i) (within v i)
    (within v i))

pub two_bit : (v : Planes) (i : ℕ) → is_two (coord3 v i) ≡ bit v.0.1 i
two_bit v i =
    same_bit_yes _ _
    (valid_law (λ a b c d. same_bit (is_two (trit a b)) b) refl (bit v.0.0 i) (bit v.0.1 i) (bit v.0.0 i) (bit v.0.1 i) (within v i)
    (within v i))

pub planes_ext : (u v : Planes) → ((i : ℕ) → coord3 u i ≡ coord3 v i) → u ≡ v
planes_ext u v h =
    planes_path
    (bit_ext u.0.0 v.0.0 (λ i. sym (nonzero_bit u i) ∙ ap nonzero (h i) ∙ nonzero_bit v i))
    (bit_ext u.0.1 v.0.1 (λ i. sym (two_bit u i) ∙ ap is_two (h i) ∙ two_bit v i))

pub planes_above : (v : Planes) (i : ℕ) → top v.0.0 < i → coord3 v i ≡ n0
planes_above v i h = ap (λ (x : Bool). trit x (bit v.0.1 i)) (top_above v.0.0 i h)

pub planes_nul : (v : Planes) → is_zero v.0.0 ≡ true → v ≡ nul3
planes_nul v e = planes_path z (sym v.1 ∙ ap (λ (x : ℕ). bit_and x v.0.1) z ∙ and_zero_l v.0.1)
  where
    go : (x : ℕ) → is_zero x ≡ true → x ≡ 0
    go zero e = refl
    go (suc x) e = absurd (false≢true e)

    z : v.0.0 ≡ 0
    z = go v.0.0 e

pub planes_not : (v : Planes) → is_zero v.0.0 ≡ false → v ≢ nul3
planes_not v e q = true≢false (sym (ap (λ (x : Planes). is_zero x.0.0) q) ∙ e)

pub planes_lead : (v : Planes) → v ≢ nul3 → coord3 v (top v.0.0) ≢ n0
planes_lead v h e = top_one v.0.0 (λ z. h (planes_nul v (ap is_zero z))) (sym (nonzero_bit v (top v.0.0)) ∙ ap nonzero e)
