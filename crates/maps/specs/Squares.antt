-- The table of the coefficient forms of square poly sizes, and its rule.
--   squares        == the table, by size and then t: those of size s start at (s − 1)²
--   InTable s t    == s is a size of the table, and t a coefficient of that size
--   table_end      an entry's place is below 64
--   squares_rule   the entry of size s and coefficient t is the form of output t of poly s,s
-- Document 01: "The coefficient forms of square poly sizes 1 to 8 stand in a constant table of 64 forms, by size and then t, and the rule
-- above is proved over the whole table." The rule is one test, computed over all 64 entries. Assumes nothing.
use Rattle.std.specs.Prelude.{◌≡◌, refl, Bool, true, ◌&&◌, List, [], ◌∷◌, ℕ, zero, suc, ◌+◌, ◌-◌, ◌*◌, ◌<◌, ◌≤◌, eqb, get_or}
use Rattle.std.proofs.Common.{ap, ◌∙◌, mul-le-mul, suc-mul, mul-suc, arith, eqb-true}
use Rattle.std.proofs.Math.Bool.{and-eq-true_iff}
use Rattle.std.proofs.Math.Decide.{dec_lt}
use Rattle.kinds.specs.declared.Kind.TheVariants as kind
use Rattle.forms.specs.products.Product.{form_of}
use Rattle.kinds.specs.Sizes.{shape_of}
use Rattle.maps.specs.Target.{pair_for, target_form}

abbrev pub squares : List ℕ
squares =
    0x1 ∷
    0x1 ∷ 0x6 ∷ 0x8 ∷
    0x1 ∷ 0xa ∷ 0x54 ∷ 0xa0 ∷ 0x100 ∷
    0x1 ∷ 0x12 ∷ 0x124 ∷ 0x1248 ∷ 0x2480 ∷ 0x4800 ∷ 0x8000 ∷
    0x1 ∷ 0x22 ∷ 0x444 ∷ 0x8888 ∷ 0x111110 ∷ 0x222200 ∷ 0x444000 ∷ 0x880000 ∷ 0x1000000 ∷
    0x1 ∷ 0x42 ∷ 0x1084 ∷ 0x42108 ∷ 0x1084210 ∷ 0x42108420 ∷ 0x84210800 ∷ 0x108420000 ∷ 0x210800000 ∷ 0x420000000 ∷ 0x800000000 ∷
    0x1 ∷ 0x82 ∷ 0x4104 ∷ 0x208208 ∷ 0x10410410 ∷ 0x820820820 ∷
    0x41041041040 ∷ 0x82082082000 ∷ 0x104104100000 ∷ 0x208208000000 ∷ 0x410400000000 ∷ 0x820000000000 ∷ 0x1000000000000 ∷
    0x1 ∷ 0x102 ∷ 0x10204 ∷ 0x1020408 ∷ 0x102040810 ∷ 0x10204081020 ∷
    0x1020408102040 ∷ 0x102040810204080 ∷ 0x204081020408000 ∷ 0x408102040800000 ∷
    0x810204080000000 ∷ 0x1020408000000000 ∷ 0x2040800000000000 ∷ 0x4080000000000000 ∷ 0x8000000000000000 ∷ []

-- a size and a coefficient of the table
pub record InTable (s t : ℕ) : Type 0 where
  pub some : 1 ≤ s
  pub most : s ≤ 8
  pub coefficient : t < s + s - 1

-- every place is below 64
pub table_end : (s t : ℕ) → InTable s t → (s - 1) * (s - 1) + t < 64
table_end zero t I = absurd (let h = I.some in omega arith)
table_end (suc d) t I =
    let e : suc d - 1 ≡ d = omega arith in
    let h : suc d * suc d ≤ 64 = mul-le-mul I.most I.most in
    let c = I.coefficient in
    omega (arith, h, ap (λ (x : ℕ). x * x) e, suc-mul d (suc d), mul-suc d d)

-- a test passes below n
abbrev all_below : ℕ → (ℕ → Bool) → Bool
all_below zero f = true
all_below (suc n) f = all_below n f && f n

all_below_yes : (n : ℕ) (f : ℕ → Bool) → all_below n f ≡ true → (i : ℕ) → i < n → f i ≡ true
all_below_yes zero f e i l = absurd (omega arith)
all_below_yes (suc n) f e i l = go (dec_lt i n) (all_below_yes n f ((and-eq-true_iff (all_below n f) (f n)).0 e).0 i)
  where
    go : Dec (i < n) → (i < n → f i ≡ true) → f i ≡ true
    go (yes k) ih = ih k
    go (no k) ih = let q : i ≡ n = omega arith in rw q ((and-eq-true_iff (all_below n f) (f n)).0 e).1

-- the rule at the entry of size d + 1 and coefficient t
abbrev right : ℕ → ℕ → Bool
right d t = eqb (get_or squares (d * d + t) 0) (target_form (shape_of kind.Poly (suc d) (suc d) 0) (suc d) (suc d) t)

-- the test, over the whole table
whole : all_below 8 (λ d. all_below (d + suc d) (right d)) ≡ true
unfolding target_form pair_for form_of
whole = refl

rule : (d t : ℕ) → d < 8 → t < d + suc d → right d t ≡ true
rule d t h l = all_below_yes (d + suc d) (right d) (all_below_yes 8 (λ d. all_below (d + suc d) (right d)) whole d h) t l

pub squares_rule : (s t : ℕ) → 1 ≤ s → s ≤ 8 → t < s + s - 1 → get_or squares ((s - 1) * (s - 1) + t) 0 ≡ target_form (shape_of kind.Poly s s 0) s s t
squares_rule zero t a b c = absurd (omega arith)
squares_rule (suc d) t a b c =
    let e : suc d - 1 ≡ d = omega arith in
    ap (λ (x : ℕ). get_or squares (x * x + t) 0) e
    ∙ eqb-true (get_or squares (d * d + t) 0) (target_form (shape_of kind.Poly (suc d) (suc d) 0) (suc d) (suc d) t) (rule d t (omega arith) (omega arith))
