-- Words of w bits: everything that is made of them has w bits, and a reduced basis of them at most w rows.
--   Below w C       == every member of C is below 2 ^ w
--   norm_word       over two elements a vector that is not 0 leads with 1 already
--   insert_place    so a row is placed as reduction leaves it
--   reduce_below, insert_below, basis_of_below, span_below   w bits stay w bits
--   at_most         a reduced basis of w-bit rows has at most w rows
-- Assumes nothing.
use Rattle.std.specs.Prelude.{◌≡◌, refl, ◌≢◌, Bool, cond, ℕ, ◌^◌, ◌<◌, ◌≤◌, length, ltb}
use Rattle.std.proofs.Common.{sym, ap, ◌∙◌, subst, true≢false, arith, pow_mono, pow_pos}
use Rattle.std.proofs.Math.Bool.{true, false}
use mathlib.Core.List.Memᴰ
use mathlib.Core.List.{List, [], ◌∷◌, Memᴰ}
use Rattle.std.proofs.Math.Decide.{dec_lt}
use Rattle.std.specs.Int.Bits.{xor_lt}
use Rattle.linear.specs.Span.{Span}
use Rattle.linear.specs.Basis.{clear, reduce, norm, place, insert, inserts, basis_of, Reduced}
use Rattle.linear.specs.Bit.{bit, top}
use Rattle.linear.specs.Word.{word, scale_w, Below}
use Rattle.linear.specs.laws.Span.{mem_cons, span_nil, span_uncons}
use Rattle.linear.proofs.laws.Insert.{dec_nul, insert_old, insert_new}
use Rattle.linear.specs.laws.Bit.{bit_zero, top_one, top_span}

pub norm_word : (x : ℕ) → x ≢ 0 → norm word x ≡ x
unfolding norm
norm_word x h = go (bit x (top x)) refl
  where
    go : (t : Bool) → bit x (top x) ≡ t → scale_w t x ≡ x
    go true e = refl
    go false e = absurd (top_one x h e)

pub insert_place : (C : List ℕ) (g : ℕ) → reduce word C g ≢ 0 → insert word C g ≡ place word (reduce word C g) C
insert_place C g h = insert_new word C g h ∙ ap (λ (r : ℕ). place word r C) (norm_word (reduce word C g) h)

-- a row of a reduced basis is not 0
pub row_ne : (C : List ℕ) → Reduced word C → (x : ℕ) → Memᴰ x C → x ≢ 0
row_ne [] ρ = λ x m. absurd (Memᴰ.not-nil m)
row_ne (b ∷ C) ρ = mem_cons {P = λ x. x ≢ 0} (λ e. true≢false (sym ρ.0 ∙ ap (λ (x : ℕ). bit x (top b)) e ∙ bit_zero (top b))) (row_ne C ρ.3)

-- ---- w bits
module _ (w : ℕ) where
  scale_below : (c : Bool) (v : ℕ) → v < 2 ^ w → scale_w c v < 2 ^ w
  scale_below true v h = h
  scale_below false v h = pow_pos w

  pub clear_below : (b v : ℕ) → b < 2 ^ w → v < 2 ^ w → clear word b v < 2 ^ w
  unfolding clear
  clear_below b v h k = xor_lt w (scale_w (bit v (top b)) b) v (scale_below (bit v (top b)) b h) k

  pub reduce_below : (C : List ℕ) (v : ℕ) → Below w C → v < 2 ^ w → reduce word C v < 2 ^ w
  unfolding reduce
  reduce_below [] v h k = k
  reduce_below (b ∷ C) v h k = reduce_below C (clear word b v) (λ x m. h x (Memᴰ.tail m)) (clear_below b v (h b (Memᴰ.head refl)) k)

  pub place_below : (r : ℕ) (C : List ℕ) → r < 2 ^ w → Below w C → Below w (place word r C)
  unfolding place
  place_below r [] h k = mem_cons {P = λ x. x < 2 ^ w} h k
  place_below r (b ∷ C) h k = go (ltb (top b) (top r)) (place_below r C h (λ x m. k x (Memᴰ.tail m)))
    where
      go : (t : Bool) → Below w (place word r C) → Below w (cond t (r ∷ b ∷ C) (clear word r b ∷ place word r C))
      go true ih = mem_cons {P = λ x. x < 2 ^ w} h k
      go false ih = mem_cons {P = λ x. x < 2 ^ w} (clear_below r b h (k b (Memᴰ.head refl))) ih

  pub insert_below : (C : List ℕ) (v : ℕ) → Below w C → v < 2 ^ w → Below w (insert word C v)
  insert_below C v h k = go (dec_nul word (reduce word C v))
    where
      go : Dec (reduce word C v ≡ 0) → Below w (insert word C v)
      go (yes e) = subst (Below w) (sym (insert_old word C v e)) h
      go (no n) = subst (Below w) (sym (insert_place C v n)) (place_below (reduce word C v) C (reduce_below C v h k) h)

  pub inserts_below : (xs C : List ℕ) → Below w C → Below w xs → Below w (inserts word C xs)
  unfolding inserts
  inserts_below [] C h k = h
  inserts_below (x ∷ xs) C h k = inserts_below xs (insert word C x) (insert_below C x h (k x (Memᴰ.head refl))) (λ y m. k y (Memᴰ.tail m))

  pub basis_of_below : (xs : List ℕ) → Below w xs → Below w (basis_of word xs)
  unfolding basis_of
  basis_of_below xs h = inserts_below xs [] (λ x m. absurd (Memᴰ.not-nil m)) h

  pub span_below : {xs : List ℕ} {v : ℕ} → Below w xs → Span word xs v → v < 2 ^ w
  span_below {xs = []} h s = subst (λ (x : ℕ). x < 2 ^ w) (sym (span_nil word s)) (pow_pos w)
  span_below {xs = x ∷ xs} h s =
      let p = span_uncons word s in
      subst (λ (y : ℕ). y < 2 ^ w) (sym p.3)
      (xor_lt w (scale_w p.0 x) p.1 (scale_below p.0 x (h x (Memᴰ.head refl))) (span_below {xs = xs} (λ y m. h y (Memᴰ.tail m)) p.2))

  -- ---- at most w rows
  pub top_below : (x : ℕ) → x ≢ 0 → x < 2 ^ w → top x < w
  top_below x n h = go (dec_lt (top x) w)
    where
      go : Dec (top x < w) → top x < w
      go (yes l) = l
      go (no m) = let p : 2 ^ w ≤ 2 ^ top x = (let l : w ≤ top x = omega arith in pow_mono l) in absurd (omega (arith, h, p, (top_span x n).0))

-- leads below n: at most n rows
lead_bound : (C : List ℕ) (n : ℕ) → Reduced word C → ((x : ℕ) → Memᴰ x C → top x < n) → length C ≤ n
lead_bound [] n ρ h = omega arith
lead_bound (b ∷ C) n ρ h =
    let k : top b < n = h b (Memᴰ.head refl) in
    let l : length C ≤ top b = lead_bound C (top b) ρ.3 ρ.1 in
    omega arith

pub at_most : (w : ℕ) (C : List ℕ) → Reduced word C → Below w C → length C ≤ w
at_most w C ρ h = lead_bound C w ρ (λ x m. top_below w x (row_ne C ρ x m) (h x m))
