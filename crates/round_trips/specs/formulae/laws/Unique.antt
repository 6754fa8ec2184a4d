-- A numeral that reads as n is the one that is printed for n.
--   byte_back   the byte of a digit's worth is that digit
--   unique      no leading zero, so each number has one numeral
-- Assumes nothing.
use Rattle.std.specs.Prelude.{ℕ, zero, suc, ◌+◌, ◌-◌, ◌*◌, ◌/◌, ◌%◌, ◌<◌, ◌≤◌, ◌⊎◌, Bool, ◌&&◌, length, get_or, leb, Option, None, Some}
use Rattle.std.proofs.Math.Path.{◌≡◌, refl, ap}
use Rattle.std.proofs.Common.{sym, ◌∙◌, inl, inr, zero-mul, one-mul, mul-le-mul_right, mod-eq_of_lt, add_comm, length-append}
use mathlib.Core.List.{List, [], ◌∷◌, ◌++◌}
use Rattle.std.proofs.Math.Bool.{true, false, cond}
use native.Mathlib.Omega.{arith}
use Rattle.std.proofs.Math.Nat.{mul-le-mul_left, mul-one, add-mul-div_right, add-mul-mod_self_right, div-eq_of_lt}
use Rattle.std.proofs.Math.Dec.{ltb}
use borrow.Author.Tests.{lt-ltb, le-ltb, leb-true, ltb-true}
use Rattle.text.specs.Reading.{◌>>=◌}
use Rattle.text.specs.Numeral.{digit, digits}
use Rattle.printing.specs.Print.{digit_byte, numeral_text}
use Rattle.printing.specs.laws.Print.{printed_one, printed_more}
use Rattle.printing.specs.laws.Digits.{digits_append}

pub byte_back : (b : ℕ) → digit b < 16 → digit_byte (digit b) ≡ b
byte_back b h = go (leb 48 b) (leb b 57) (leb 97 b) (leb b 102) refl refl refl refl h
  where
    go : (p q r s : Bool) → leb 48 b ≡ p → leb b 57 ≡ q → leb 97 b ≡ r → leb b 102 ≡ s
        → cond (p && q) (b - 48) (cond (r && s) (b - 87) 16) < 16 → digit_byte (cond (p && q) (b - 48) (cond (r && s) (b - 87) 16)) ≡ b
    go true true r s e₁ e₂ e₃ e₄ l =
        let x = leb-true 48 b e₁ in
        let y = leb-true b 57 e₂ in
        rw (lt-ltb (b - 48) 10 (omega arith)) (omega arith)
    go true false true true e₁ e₂ e₃ e₄ l =
        let x = leb-true 97 b e₃ in
        rw (le-ltb (b - 87) 10 (omega arith)) (omega arith)
    go true false true false e₁ e₂ e₃ e₄ l = absurd (omega arith)
    go true false false s e₁ e₂ e₃ e₄ l = absurd (omega arith)
    go false q true true e₁ e₂ e₃ e₄ l =
        let x = leb-true 97 b e₃ in
        rw (le-ltb (b - 87) 10 (omega arith)) (omega arith)
    go false q true false e₁ e₂ e₃ e₄ l = absurd (omega arith)
    go false q false s e₁ e₂ e₃ e₄ l = absurd (omega arith)

snoc : (s : List ℕ) → (s ≡ []) ⊎ ((i : List ℕ) × (b : ℕ) × (s ≡ i ++ (b ∷ [])))
snoc [] = inl refl
snoc (x ∷ s) = go (snoc s)
  where
    go : (s ≡ []) ⊎ ((i : List ℕ) × (b : ℕ) × (s ≡ i ++ (b ∷ []))) → (x ∷ s ≡ []) ⊎ ((i : List ℕ) × (b : ℕ) × (x ∷ s ≡ i ++ (b ∷ [])))
    go (inl e) = inr ([], x, ap (λ (t : List ℕ). x ∷ t) e)
    go (inr t) = inr (x ∷ t.0, t.1, ap (λ (u : List ℕ). x ∷ u) t.2)

module _ (base : ℕ) (two : 2 ≤ base) (sixteen : base ≤ 16) where
  rises : (v : ℕ) (s : List ℕ) (n : ℕ) → digits base v s ≡ Some n → v ≤ n
  unfolding digits
  rises v [] n e = let g : v ≡ n = cc in omega arith
  rises v (b ∷ s) n e = go (ltb (digit b) base) (rises (v * base + digit b) s n) e
    where
      go : (t : Bool) → (digits base (v * base + digit b) s ≡ Some n → v * base + digit b ≤ n) → cond t (digits base (v * base + digit b) s) None ≡ Some n → v ≤ n
      go true ih f = omega (arith, ih f, mul-le-mul_left v two, mul-le-mul_left {m = 1} {n = base} v (omega arith), mul-one v)
      go false ih f = absurd (let q : ◌≡◌ {A = ℕ} 0 1 = cc in omega arith)

  last : (v b n : ℕ) → digits base v (b ∷ []) ≡ Some n → (digit b < base) × (v * base + digit b ≡ n)
  unfolding digits
  last v b n e = go (ltb (digit b) base) refl e
    where
      go : (t : Bool) → ltb (digit b) base ≡ t → cond t (Some (v * base + digit b)) None ≡ Some n → (digit b < base) × (v * base + digit b ≡ n)
      go true h f = (ltb-true (digit b) base h, cc)
      go false h f = absurd (let q : ◌≡◌ {A = ℕ} 0 1 = cc in omega arith)

  -- a numeral that does not begin with `0` is no zero
  positive : (s : List ℕ) (n : ℕ) → 0 < length s → (get_or s 0 0 ≡ 48 → ⊥) → digits base 0 s ≡ Some n → 0 < n
  unfolding digits
  positive [] n l f e = absurd (omega arith)
  positive (b ∷ s) n l f e = go (ltb (digit b) base) refl e
    where
      go : (t : Bool) → ltb (digit b) base ≡ t → cond t (digits base (0 * base + digit b) s) None ≡ Some n → 0 < n
      go true h g =
          let d = ltb-true (digit b) base h in
          let r = rises (0 * base + digit b) s n g in
          let z : digit b ≡ 0 → ⊥ = λ q. f (sym (byte_back b (omega arith)) ∙ ap digit_byte q) in
          omega (arith, z)
      go false h g = absurd (let q : ◌≡◌ {A = ℕ} 0 1 = cc in omega arith)

  quotient : (u d : ℕ) → d < base → (u * base + d) / base ≡ u
  quotient u d h = ap (λ (x : ℕ). x / base) (add_comm (u * base) d) ∙ add-mul-div_right d u {z = base} (omega arith) ∙ omega (arith, div-eq_of_lt h)

  remainder : (u d : ℕ) → d < base → (u * base + d) % base ≡ d
  remainder u d h = ap (λ (x : ℕ). x % base) (add_comm (u * base) d) ∙ add-mul-mod_self_right d u base ∙ mod-eq_of_lt h

  nothing : (u : ℕ) → digits base 0 [] ≡ Some u → 0 ≡ u
  unfolding digits
  nothing u e = cc

  pub unique : (f : ℕ) (s : List ℕ) (n : ℕ) → 0 < length s → length s ≤ f → (1 < length s → get_or s 0 0 ≡ 48 → ⊥) → digits base 0 s ≡ Some n → numeral_text base f n ≡ s
  unique zero s n l g z e = absurd (omega arith)
  unique (suc f) s n l g z e = view (snoc s) (unique f)
    where
      IH : Type 0
      IH = (s : List ℕ) (n : ℕ) → 0 < length s → length s ≤ f → (1 < length s → get_or s 0 0 ≡ 48 → ⊥) → digits base 0 s ≡ Some n → numeral_text base f n ≡ s

      -- i, then the last digit b
      part : (i : List ℕ) (b : ℕ) → s ≡ i ++ (b ∷ []) → (o : Option ℕ) → digits base 0 i ≡ o → (o >>= λ u. digits base u (b ∷ [])) ≡ Some n → IH → numeral_text base (suc f) n ≡ i ++ (b ∷ [])
      part i b h None d q ih = absurd (let q : ◌≡◌ {A = ℕ} 0 1 = cc in omega arith)
      part [] b h (Some u) d q ih =
          let t = last u b n q in
          let w : 0 ≡ u = nothing u d in
          let m : digit b ≡ n = omega (arith, t, zero-mul base, ap (λ (x : ℕ). x * base) w) in
          printed_one base f n (omega (arith, t)) ∙ ap (λ (x : ℕ). x ∷ []) (ap digit_byte (sym m) ∙ byte_back b (omega (arith, t)))
      part (x ∷ i) b h (Some u) d q ih =
          let t = last u b n q in
          let k : length s ≡ suc (length i) + 1 = ap length h ∙ length-append (x ∷ i) (b ∷ []) in
          let first : get_or s 0 0 ≡ x = ap (λ (r : List ℕ). get_or r 0 0) h in
          let p = positive (x ∷ i) u (omega arith) (λ e. z (omega arith) (first ∙ e)) d in
          let m : base ≤ n = omega (arith, t, mul-le-mul_right base p, one-mul base) in
          let v : n / base ≡ u = ap (λ (r : ℕ). r / base) (sym t.1) ∙ quotient u (digit b) t.0 in
          let w : n % base ≡ digit b = ap (λ (r : ℕ). r % base) (sym t.1) ∙ remainder u (digit b) t.0 in
          printed_more base f n m
          ∙ rw (v, w, byte_back b (omega (arith, t)), ih (x ∷ i) u (omega arith) (omega arith) (λ c e. z (omega arith) (first ∙ e)) d)

      view : (s ≡ []) ⊎ ((i : List ℕ) × (b : ℕ) × (s ≡ i ++ (b ∷ []))) → IH → numeral_text base (suc f) n ≡ s
      view (inl h) ih = absurd (omega (arith, ap length h))
      view (inr t) ih =
          part t.0 t.1 t.2 (digits base 0 t.0) refl (sym (digits_append base 0 t.0 (t.1 ∷ [])) ∙ ap (digits base 0) (sym t.2) ∙ e) ih ∙ sym t.2
