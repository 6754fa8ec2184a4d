-- Digits that were printed are read back.
--   digit_back    a digit's byte
--   digits_append reading two parts
--   digits_back   a numeral; number_same: numbers with the same decimal text are the same
-- Assumes nothing.
use Prim.Native.Nat.{ℕ, zero, suc, ◌+◌, ◌*◌, ◌/◌, ◌%◌, ◌^◌, ◌<◌, ◌≤◌}
use Rattle.std.specs.Prelude.{◌≡◌, List, [], ◌∷◌, ◌++◌, Bool, cond, None, Some}
use Rattle.std.proofs.Math.Path.{refl, ap}
use Rattle.std.proofs.Common.{sym, ◌∙◌, arith, pow-suc, div-add-mod', mod-lt, div-lt_iff_lt-mul, one-mul, le-leb, ltb-true, ltb-false}
use Rattle.std.proofs.Math.Bool.{true, false}
use Rattle.std.proofs.Math.Nat.{pow-zero, zero-mul}
use Rattle.std.proofs.Math.Dec.{ltb}
use Rattle.std.proofs.lemmas.Bool.{lt-leb}
use Rattle.text.specs.Reading.{◌>>=◌}
use Rattle.text.specs.Numeral.{digit, digits}
use Rattle.text.specs.laws.Numeral.{digits_cons}
use Rattle.printing.specs.Print.{digit_byte, numeral_text, number_text}

-- ---- a digit
pub digit_back : (d : ℕ) → d < 16 → digit (digit_byte d) ≡ d
digit_back d h = go (ltb d 10) refl
  where
    go : (t : Bool) → ltb d 10 ≡ t → digit (cond t (48 + d) (87 + d)) ≡ d
    go true e =
        let l : d < 10 = ltb-true d 10 e in
        simp (le-leb 48 (48 + d) (omega arith), le-leb (48 + d) 57 (omega arith)) (omega arith)
    go false e =
        let l : 10 ≤ d = ltb-false d 10 e in
        simp (le-leb 48 (87 + d) (omega arith), lt-leb (87 + d) 57 (omega arith), le-leb 97 (87 + d) (omega arith), le-leb (87 + d) 102 (omega arith)) (omega arith)

-- ---- reading two parts
pub digits_append : (base v : ℕ) (s t : List ℕ) → digits base v (s ++ t) ≡ (digits base v s >>= λ u. digits base u t)
unfolding digits
digits_append base v [] t = refl
digits_append base v (b ∷ s) t = go (ltb (digit b) base) (digits_append base (v * base + digit b) s t)
  where
    go : (c : Bool) → digits base (v * base + digit b) (s ++ t) ≡ (digits base (v * base + digit b) s >>= λ u. digits base u t)
        → cond c (digits base (v * base + digit b) (s ++ t)) None ≡ (cond c (digits base (v * base + digit b) s) None >>= λ u. digits base u t)
    go true e = e
    go false e = refl

digits_last : (base v d : ℕ) → d < base → base ≤ 16 → digits base v (digit_byte d ∷ []) ≡ Some (v * base + d)
unfolding digits
digits_last base v d h b =
    let e = digit_back d (omega arith) in
    digits_cons base v (digit_byte d) [] (rw e h) ∙ rw e

module _ (base : ℕ) (two : 2 ≤ base) (sixteen : base ≤ 16) where
  pub below : (f n : ℕ) → n < base ^ suc f → n / base < base ^ f
  below f n h = (div-lt_iff_lt-mul {k = base} (omega arith)).1 (rw pow-suc at h)

  pub above : (n : ℕ) → base ≤ n → 0 < n / base
  above n h = go (ltb 0 (n / base)) refl
    where
      go : (t : Bool) → ltb 0 (n / base) ≡ t → 0 < n / base
      go true e = ltb-true 0 (n / base) e
      go false e =
          let z : n / base < 1 = omega (arith, ltb-false 0 (n / base) e) in
          let l : n < 1 * base = (div-lt_iff_lt-mul {k = base} (omega arith)).0 z in
          absurd (omega (arith, one-mul base))

  pub digits_back : (f n : ℕ) → n < base ^ f → digits base 0 (numeral_text base f n) ≡ Some n
  unfolding digits numeral_text
  digits_back zero n h =
      let e : n < 1 = rw pow-zero at h in
      ap Some (omega arith)
  digits_back (suc f) n h = go (ltb n base) refl (λ l. digits_back f (n / base) l)
    where
      go : (t : Bool) → ltb n base ≡ t → (n / base < base ^ f → digits base 0 (numeral_text base f (n / base)) ≡ Some (n / base))
          → digits base 0 (cond t (digit_byte n ∷ []) (numeral_text base f (n / base) ++ (digit_byte (n % base) ∷ []))) ≡ Some n
      go true e ih = digits_last base 0 n (ltb-true n base e) sixteen ∙ ap Some (omega (arith, zero-mul base))
      go false e ih =
          digits_append base 0 (numeral_text base f (n / base)) (digit_byte (n % base) ∷ [])
          ∙ rw (ih (below f n h)) (digits_last base (n / base) (n % base) (mod-lt n (omega arith)) sixteen ∙ ap Some (div-add-mod' n base))

pub number_same : (n m : ℕ) → n < 10 ^ 20 → m < 10 ^ 20 → number_text n ≡ number_text m → n ≡ m
number_same n m h k e =
    let q : Some n ≡ Some m = sym (digits_back 10 (omega arith) (omega arith) 20 n h) ∙ ap (digits 10 0) e ∙ digits_back 10 (omega arith) (omega arith) 20 m k in
    cc
