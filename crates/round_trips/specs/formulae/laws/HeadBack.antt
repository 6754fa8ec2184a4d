-- What was printed is read back.
--   numeral_back   a printed numeral reads as its number: count_back, mask_back
--   cut_first      a text without c is cut off whole before the first c
--   field_back, name_back, head_back   a printed field, a fixed line and the first two lines
-- Assumes nothing.
use Prim.Native.Nat.{ℕ, zero, suc, ◌+◌, ◌/◌, ◌%◌, ◌^◌, ◌<◌, ◌≤◌}
use Rattle.std.specs.Prelude.{◌≡◌, Bool, cond, get_or, ltb, Option, Some}
use Rattle.std.proofs.Math.Path.{refl}
use Rattle.std.proofs.Common.{ap, ◌∙◌, eq-eqb, ne_eqb, ltb-true, ltb-false}
use mathlib.Core.List.{List, [], ◌∷◌, ◌++◌}
use Rattle.std.proofs.Math.Bool.{true, false}
use native.Mathlib.Omega.{arith}
use Rattle.std.proofs.Math.Nat.{pow-zero}
use Rattle.std.proofs.Math.ListN.{length, length-append, get_or-append}
use Rattle.kinds.specs.declared.Kind.{Kind}
use Rattle.kinds.specs.declared.Shape.{Shape}
use Rattle.kinds.specs.Kinds.{name_of, kind_named_law}
use Rattle.kinds.specs.names.laws.Same.{same_self}
use Rattle.kinds.specs.names.laws.Names.{Plain, name_plain}
use Rattle.text.specs.Numeral.{numeral, count, mask}
use Rattle.text.specs.Line.{LF, comma, cut, name_line, field}
use Rattle.text.specs.heads.Head.{head_names, count_fields, head_lines}
use Rattle.printing.specs.Print.{digit_byte, numeral_text, count_text, mask_text}
use Rattle.formula_text.specs.HeadText.{fields_text, file_head}
use Rattle.text.specs.laws.Numeral.{numeral_one, numeral_more}
use Rattle.text.specs.laws.Line.{name_is, field_is}
use Rattle.text.specs.heads.laws.Head.{fields_is, head_is, heads_is}
use Rattle.printing.specs.laws.Digits.{below, above, digits_back}
use Rattle.printing.specs.laws.Print.{printed_one, printed_more}

-- ---- a digit
digit_not_zero : (d : ℕ) → 0 < d → digit_byte d ≡ 48 → ⊥
digit_not_zero d h = go (ltb d 10)
  where
    go : (t : Bool) → cond t (48 + d) (87 + d) ≡ 48 → ⊥
    go true e = omega arith
    go false e = omega arith

-- ---- a numeral
module _ (base : ℕ) (two : 2 ≤ base) (sixteen : base ≤ 16) where
  pub lead : (f n : ℕ) → 0 < n → n < base ^ f → (0 < length (numeral_text base f n)) × (get_or (numeral_text base f n) 0 0 ≡ 48 → ⊥)
  unfolding numeral_text
  lead zero n p h =
      let e : n < 1 = rw pow-zero at h in
      absurd (omega arith)
  lead (suc f) n p h = go (ltb n base) refl (λ q l. lead f (n / base) q l)
    where
      P : List ℕ → Type 0
      P s = (0 < length s) × (get_or s 0 0 ≡ 48 → ⊥)

      go : (t : Bool) → ltb n base ≡ t → (0 < n / base → n / base < base ^ f → P (numeral_text base f (n / base)))
          → P (cond t (digit_byte n ∷ []) (numeral_text base f (n / base) ++ (digit_byte (n % base) ∷ [])))
      go true e ih = (omega arith, digit_not_zero n p)
      go false e ih =
          let q = ih (above base two sixteen n (ltb-false n base e)) (below base two sixteen f n h) in (
            omega (arith, q, length-append (numeral_text base f (n / base)) (digit_byte (n % base) ∷ [])),
            rw (get_or-append (numeral_text base f (n / base)) (digit_byte (n % base) ∷ []) 0 0 q.0) q.1,
          )

  pub printed_length : (f n : ℕ) → length (numeral_text base f n) ≤ f
  unfolding numeral_text
  printed_length zero n = omega arith
  printed_length (suc f) n = go (ltb n base) (printed_length f (n / base))
    where
      go : (t : Bool) → length (numeral_text base f (n / base)) ≤ f
          → length (cond t (digit_byte n ∷ []) (numeral_text base f (n / base) ++ (digit_byte (n % base) ∷ []))) ≤ suc f
      go true ih = omega arith
      go false ih = omega (arith, length-append (numeral_text base f (n / base)) (digit_byte (n % base) ∷ []))

  -- a printed numeral reads as the number
  pub numeral_back : (f n : ℕ) → n < base ^ suc f → numeral base (suc f) (numeral_text base (suc f) n) ≡ Some n
  numeral_back f n h = go (ltb n base) refl
    where
      go : (t : Bool) → ltb n base ≡ t → numeral base (suc f) (numeral_text base (suc f) n) ≡ Some n
      go true e =
          let p = printed_one base f n (ltb-true n base e) in
          let l : length (numeral_text base (suc f) n) ≡ 1 = rw p in
          numeral_one base (suc f) (numeral_text base (suc f) n) (omega arith) (omega arith) (omega arith) ∙ digits_back base two sixteen (suc f) n h
      go false e =
          let m = ltb-false n base e in
          let p = printed_more base f n m in
          let q = lead f (n / base) (above base two sixteen n m) (below base two sixteen f n h) in
          let w = lead (suc f) n (omega arith) h in
          let l : length (numeral_text base (suc f) n) ≡ length (numeral_text base f (n / base)) + 1 = rw p
          (length-append (numeral_text base f (n / base)) (digit_byte (n % base) ∷ [])) in
          numeral_more base (suc f) (numeral_text base (suc f) n) (omega (arith, q, l)) (printed_length (suc f) n)
          (ne_eqb (get_or (numeral_text base (suc f) n) 0 0) 48 w.1)
          ∙ digits_back base two sixteen (suc f) n h

-- counts and masks
pub count_back : (n : ℕ) → n < 10000 → count (count_text n) ≡ Some n
count_back n h = numeral_back 10 (omega arith) (omega arith) 3 n h

pub mask_back : (n : ℕ) → n < 2 ^ 64 → mask (mask_text n) ≡ Some n
mask_back n h = numeral_back 16 (omega arith) (omega arith) 15 n h

-- ---- cutting
-- no byte of s is c
abbrev pub Free : ℕ → List ℕ → Type 0
Free c [] = Unit {0}
Free c (b ∷ s) = (b ≡ c → ⊥) × Free c s

pub free_append : (c : ℕ) (s t : List ℕ) → Free c s → Free c t → Free c (s ++ t)
free_append c [] t h g = g
free_append c (b ∷ s) t h g = (h.0, free_append c s t h.1 g)

pub cut_first : (c : ℕ) (s t : List ℕ) → Free c s → cut c (s ++ (c ∷ t)) ≡ Some (s, t)
unfolding cut
cut_first c [] t h = rw (eq-eqb c c refl)
cut_first c (b ∷ s) t h = rw (ne_eqb b c h.0, cut_first c s t h.1)

digit_free : (c d : ℕ) → c < 48 → digit_byte d ≡ c → ⊥
digit_free c d h = go (ltb d 10)
  where
    go : (t : Bool) → cond t (48 + d) (87 + d) ≡ c → ⊥
    go true e = omega arith
    go false e = omega arith

pub printed_free : (c base f n : ℕ) → c < 48 → Free c (numeral_text base f n)
unfolding numeral_text
printed_free c base zero n h = tt
printed_free c base (suc f) n h = go (ltb n base) (printed_free c base f (n / base) h)
  where
    go : (t : Bool) → Free c (numeral_text base f (n / base))
        → Free c (cond t (digit_byte n ∷ []) (numeral_text base f (n / base) ++ (digit_byte (n % base) ∷ [])))
    go true ih = (digit_free c n h, tt)
    go false ih = free_append c (numeral_text base f (n / base)) (digit_byte (n % base) ∷ []) ih (digit_free c (n % base) h, tt)

-- ---- fixed lines
pub name_back : (n t : List ℕ) → Free LF n → name_line n (n ++ (LF ∷ t)) ≡ Some t
name_back n t f = name_is n (n ++ (LF ∷ t)) n t (cut_first LF n t f) (same_self n)

-- ---- fields
pub field_back : (base most c n : ℕ) (t : List ℕ) → c < 48 → numeral base most (numeral_text base most n) ≡ Some n
    → field base most c (numeral_text base most n ++ (c ∷ t)) ≡ Some (n, t)
field_back base most c n t l h =
    field_is base most c (numeral_text base most n ++ (c ∷ t)) (numeral_text base most n) t n
    (cut_first c (numeral_text base most n) t (printed_free c base most n l)) h

fields_back : (p q r k : ℕ) → p < 10000 → q < 10000 → r < 10000 → k < 10000 → count_fields (fields_text p q r k) ≡ Some (p, q, r, k)
unfolding fields_text
fields_back p q r k hp hq hr hk =
    fields_is _ _ _ _ p q r (Some k)
    (field_back 10 4 comma p (count_text q ++ (comma ∷ (count_text r ++ (comma ∷ count_text k)))) (omega arith) (count_back p hp))
    (field_back 10 4 comma q (count_text r ++ (comma ∷ count_text k)) (omega arith) (count_back q hq))
    (field_back 10 4 comma r (count_text k) (omega arith) (count_back r hr))
    (count_back k hk)

fields_free : (p q r k : ℕ) → Free LF (fields_text p q r k)
unfolding fields_text
fields_free p q r k =
    free_append LF (count_text p) _ (printed_free LF 10 4 p (omega arith)) (
      (λ e. omega arith),
      free_append LF (count_text q) _ (printed_free LF 10 4 q (omega arith)) (
        (λ e. omega arith),
        free_append LF (count_text r) _ (printed_free LF 10 4 r (omega arith)) ((λ e. omega arith), printed_free LF 10 4 k (omega arith)),
      ),
    )

-- ---- the first two lines
plain_free : (c : ℕ) (s : List ℕ) → c < 97 → Plain s → Free c s
plain_free c [] h p = tt
plain_free c (b ∷ s) h p = ((λ e. omega arith), plain_free c s h p.1)

name_free : (c : ℕ) (kind : Kind) → c < 97 → Free c (name_of kind)
name_free c kind h = plain_free c (name_of kind) h (name_plain kind)

pub head_back : (shape : Shape) (k : ℕ) (t : List ℕ) → shape.p < 10000 → shape.q < 10000 → shape.r < 10000 → k < 10000
    → head_lines (file_head shape k t) ≡ Some (record { kind = Some shape.kind; p = shape.p; q = shape.q; r = shape.r; k = k }, t)
unfolding file_head
head_back shape k t hp hq hr hk =
    let name = name_of shape.kind in
    let fields = fields_text shape.p shape.q shape.r k in
    let line = name ++ (comma ∷ fields) in
    heads_is _ (line ++ (LF ∷ t)) (name_back head_names _ (omega arith))
    ∙ head_is (line ++ (LF ∷ t)) line t name fields shape.p shape.q shape.r k
    (cut_first LF line t
    (free_append LF name (comma ∷ fields) (name_free LF shape.kind (omega arith)) ((λ e. omega arith), fields_free shape.p shape.q shape.r k)))
    (cut_first comma name fields (name_free comma shape.kind (omega arith)))
    (fields_back shape.p shape.q shape.r k hp hq hr hk)
    ∙ ap (λ (o : Option Kind). Some (record { kind = o; p = shape.p; q = shape.q; r = shape.r; k = k }, t)) (kind_named_law shape.kind)
