-- The numbers that a mask names, written one after the other.
--   Naming numbers mask before out m i == of the numbers before place i those named are written, m of them
-- Assumes nothing.
use Rattle.std.specs.Prelude.{◌≡◌, refl, Bool, true, false, length, get_or, drop, set}
use Rattle.std.proofs.Common.{sym, ◌∙◌, zero-add, length-set, drop_of_length-le}
use Rattle.std.proofs.Math.Path.{ap}
use Rattle.std.proofs.Math.Bool.{cond}
use mathlib.Core.List.{List, [], ◌∷◌, nil≢cons, head-eq_of_cons-eq, tail-eq_of_cons-eq}
use Prim.Native.Nat.{ℕ, zero, suc, ◌+◌, ◌<◌, ◌≤◌}
use native.Mathlib.Omega.{arith}
use Rattle.std.proofs.Math.Seq.{paste, paste-zero, paste-suc}
use Rattle.linear.specs.Bit.{bit}
use Rattle.words.specs.Buffers.{filled}
use Rattle.words.specs.laws.Buffers.{pasted}
use Rattle.words.specs.laws.Scan.{next}
use Rattle.bases.specs.rows.Terms.{named}
use Rattle.bases.proofs.laws.of_rows.Named.{named_length}

-- what begins at a place of a list
pub record Begins (l : List ℕ) (m e : ℕ) (r : List ℕ) : Type 0 where
  pub inside : m < length l
  pub here : get_or l m 0 ≡ e
  pub rest : drop (suc m) l ≡ r

begins : (l : List ℕ) (m e : ℕ) (r : List ℕ) → drop m l ≡ e ∷ r → Begins l m e r
begins [] m e r q = absurd (nil≢cons (sym (drop_of_length-le [] (let z : 0 ≤ m = omega arith in z)) ∙ q))
begins (x ∷ l) zero e r q = record { inside = omega arith; here = head-eq_of_cons-eq q; rest = tail-eq_of_cons-eq q }
begins (x ∷ l) (suc m) e r q = let b = begins l m e r q in record { inside = omega (arith, b.inside); here = b.here; rest = b.rest }

at_end : (l : List ℕ) (m : ℕ) → m ≤ length l → drop m l ≡ [] → m ≡ length l
at_end [] zero h e = refl
at_end [] (suc m) h e = absurd (omega arith)
at_end (x ∷ l) zero h e = absurd (nil≢cons (sym e))
at_end (x ∷ l) (suc m) h e = ap suc (at_end l m (omega arith) e)

module _ (numbers : List ℕ) (mask : ℕ) (before : List ℕ) where
  pub record Naming (out : List ℕ) (m i : ℕ) : Type 0 where
    pub within : i ≤ length numbers
    pub same : length out ≡ length before
    pub count : m ≤ length (named numbers mask 0)
    pub is : out ≡ paste before 0 (named numbers mask 0) m
    pub left : drop m (named numbers mask 0) ≡ named (drop i numbers) mask i

  pub naming_start : Naming before 0 0
  naming_start = record { within = omega arith; same = refl; count = omega arith; is = paste-zero before 0 (named numbers mask 0); left = refl }

  module _ (out : List ℕ) (m i : ℕ) (N : Naming out m i) (h : i < length numbers) where
    ahead : (t : Bool) → bit mask i ≡ t
        → drop m (named numbers mask 0) ≡ cond t (get_or numbers i 0 ∷ named (drop (i + 1) numbers) mask (i + 1)) (named (drop (i + 1) numbers) mask (i + 1))
    unfolding named
    ahead t e =
        N.left ∙ ap (λ (l : List ℕ). named l mask i) (next numbers i h)
        ∙ ap (λ (b : Bool). cond b (get_or numbers i 0 ∷ named (drop (i + 1) numbers) mask (suc i)) (named (drop (i + 1) numbers) mask (suc i))) e
        ∙ ap (λ (k : ℕ). cond t (get_or numbers i 0 ∷ named (drop (i + 1) numbers) mask k) (named (drop (i + 1) numbers) mask k))
        (let z : suc i ≡ i + 1 = omega arith in z)

    pub naming_skip : bit mask i ≡ false → Naming out m (i + 1)
    naming_skip e = record { within = omega arith; same = N.same; count = N.count; is = N.is; left = ahead false e }

    module _ (e : bit mask i ≡ true) where
      here : Begins (named numbers mask 0) m (get_or numbers i 0) (named (drop (i + 1) numbers) mask (i + 1))
      here = begins (named numbers mask 0) m (get_or numbers i 0) (named (drop (i + 1) numbers) mask (i + 1)) (ahead true e)

      pub naming_inside : length numbers ≤ length before → m < length out
      naming_inside r = omega (arith, here.inside, named_length numbers mask 0, N.same)

      pub naming_next : length numbers ≤ length before → Naming (set out m (get_or numbers i 0)) (m + 1) (i + 1)
      naming_next r =
          record {
            within = omega arith;
            same = length-set out m (get_or numbers i 0) ∙ N.same;
            count = omega (arith, here.inside);
            is =
                ap (λ (y : ℕ). set out m y) (sym here.here) ∙ ap (λ (a : List ℕ). set a m (get_or (named numbers mask 0) m 0)) N.is
                ∙ ap (λ (k : ℕ). set (paste before 0 (named numbers mask 0) m) k (get_or (named numbers mask 0) m 0)) (sym (zero-add m))
                ∙ paste-suc before 0 (named numbers mask 0) m 0 (omega (arith, here.inside, named_length numbers mask 0)) here.inside
                ∙ ap (paste before 0 (named numbers mask 0)) (let z : suc m ≡ m + 1 = omega arith in z);
            left = ap (λ (k : ℕ). drop k (named numbers mask 0)) (let z : m + 1 ≡ suc m = omega arith in z) ∙ here.rest;
          }

  pub naming_end : (out : List ℕ) (m i : ℕ) → Naming out m i → length numbers ≤ i
      → (out ≡ filled (named numbers mask 0) before) × (m ≡ length (named numbers mask 0))
  naming_end out m i N h =
      let e : m ≡ length (named numbers mask 0) = at_end (named numbers mask 0) m N.count
      (N.left ∙ ap (λ (l : List ℕ). named l mask i) (drop_of_length-le numbers h) ∙ (unfold named in refl)) in
      (N.is ∙ ap (paste before 0 (named numbers mask 0)) e ∙ pasted (named numbers mask 0) before, e)
