-- Laws of sums modulo 2.
--   sum_same    sums of equal terms are equal
--   sum_none    a sum of zeros is 0
--   sum_xor     the sum of sums
--   sum_times, sum_times_right   a factor common to all terms
--   sum_one     a sum with one term that is not 0 is that term
--   sum_swap    two sums change places
--   sum_parts, sum_blocks   a sum over n + m numbers in two parts, over p × q numbers block by block
-- Assumes nothing.
use Rattle.std.specs.Prelude.{◌≡◌, refl, ◌≢◌, Bool, true, false, ◌&&◌, ℕ, zero, suc, ◌+◌, ◌*◌, ◌<◌}
use Rattle.std.proofs.Common.{sym, ap, ap₂, ◌∙◌, zero-mul, suc-mul, add-zero, add-suc, arith}
use Rattle.std.proofs.Math.Decide.{dec_lt}
use Rattle.linear.specs.Bit.{xor_b}
use Rattle.linear.specs.laws.Finite.{bits, bits_all, by_cases, same_bit, same_bit_yes, bit_law}
use Rattle.maps.specs.Textbook.{sum_to}

-- an equation of four bits, by one computed test
pub xor_swap : (a b c d : Bool) → xor_b (xor_b a b) (xor_b c d) ≡ xor_b (xor_b a c) (xor_b b d)
xor_swap a b c d =
    same_bit_yes _ _ (by_cases bits bits_all (λ a b c d. same_bit (xor_b (xor_b a b) (xor_b c d)) (xor_b (xor_b a c) (xor_b b d))) refl a b c d)

pub and_swap : (a b c d : Bool) → (a && b) && (c && d) ≡ (a && c) && (b && d)
and_swap a b c d = same_bit_yes _ _ (by_cases bits bits_all (λ a b c d. same_bit ((a && b) && (c && d)) ((a && c) && (b && d))) refl a b c d)

pub and_xor : (c x y : Bool) → xor_b (c && x) (c && y) ≡ c && xor_b x y
and_xor = bit_law (λ c x y. xor_b (c && x) (c && y)) (λ c x y. c && xor_b x y) refl

pub xor_and : (x y c : Bool) → xor_b (x && c) (y && c) ≡ xor_b x y && c
xor_and = bit_law (λ x y c. xor_b (x && c) (y && c)) (λ x y c. xor_b x y && c) refl

xor_false : (x : Bool) → xor_b x false ≡ x
xor_false true = refl
xor_false false = refl

and_false : (x : Bool) → x && false ≡ false
and_false true = refl
and_false false = refl

pub sum_same : (n : ℕ) (f g : ℕ → Bool) → ((i : ℕ) → i < n → f i ≡ g i) → sum_to n f ≡ sum_to n g
unfolding sum_to
sum_same zero f g h = refl
sum_same (suc n) f g h = ap₂ xor_b (sum_same n f g (λ i l. h i (omega arith))) (h n (omega arith))

pub sum_none : (n : ℕ) (f : ℕ → Bool) → ((i : ℕ) → i < n → f i ≡ false) → sum_to n f ≡ false
unfolding sum_to
sum_none zero f h = refl
sum_none (suc n) f h = ap₂ xor_b (sum_none n f (λ i l. h i (omega arith))) (h n (omega arith))

pub sum_xor : (n : ℕ) (f g : ℕ → Bool) → sum_to n (λ i. xor_b (f i) (g i)) ≡ xor_b (sum_to n f) (sum_to n g)
unfolding sum_to
sum_xor zero f g = refl
sum_xor (suc n) f g = ap (λ (x : Bool). xor_b x (xor_b (f n) (g n))) (sum_xor n f g) ∙ xor_swap (sum_to n f) (sum_to n g) (f n) (g n)

pub sum_times : (n : ℕ) (c : Bool) (f : ℕ → Bool) → sum_to n (λ i. c && f i) ≡ c && sum_to n f
unfolding sum_to
sum_times zero c f = sym (and_false c)
sum_times (suc n) c f = ap (λ (x : Bool). xor_b x (c && f n)) (sum_times n c f) ∙ and_xor c (sum_to n f) (f n)

pub sum_times_right : (n : ℕ) (c : Bool) (f : ℕ → Bool) → sum_to n (λ i. f i && c) ≡ sum_to n f && c
unfolding sum_to
sum_times_right zero c f = refl
sum_times_right (suc n) c f = ap (λ (x : Bool). xor_b x (f n && c)) (sum_times_right n c f) ∙ xor_and (sum_to n f) (f n) c

pub sum_one : (n : ℕ) (f : ℕ → Bool) (i : ℕ) → i < n → ((j : ℕ) → j < n → j ≢ i → f j ≡ false) → sum_to n f ≡ f i
unfolding sum_to
sum_one zero f i l h = absurd (omega arith)
sum_one (suc n) f i l h = go (dec_lt i n) (sum_one n f i)
  where
    go : Dec (i < n) → (i < n → ((j : ℕ) → j < n → j ≢ i → f j ≡ false) → sum_to n f ≡ f i) → xor_b (sum_to n f) (f n) ≡ f i
    go (yes k) ih = ap₂ xor_b (ih k (λ j a b. h j (omega arith) b)) (h n (omega arith) (λ e. omega arith)) ∙ xor_false (f i)
    go (no k) ih =
        let e : n ≡ i = omega arith in
        ap (λ (x : Bool). xor_b x (f n)) (sum_none n f (λ j a. h j (omega arith) (λ q. omega arith))) ∙ ap f e

pub sum_swap : (n m : ℕ) (f : ℕ → ℕ → Bool) → sum_to n (λ i. sum_to m (λ j. f i j)) ≡ sum_to m (λ j. sum_to n (λ i. f i j))
unfolding sum_to
sum_swap zero m f = sym (sum_none m (λ j. false) (λ j l. refl))
sum_swap (suc n) m f =
    ap (λ (x : Bool). xor_b x (sum_to m (λ j. f n j))) (sum_swap n m f)
    ∙ sym (sum_xor m (λ j. sum_to n (λ i. f i j)) (λ j. f n j))

pub sum_parts : (n m : ℕ) (f : ℕ → Bool) → sum_to (n + m) f ≡ xor_b (sum_to n f) (sum_to m (λ j. f (n + j)))
unfolding sum_to
sum_parts n zero f = ap (λ (k : ℕ). sum_to k f) (add-zero n) ∙ sym (xor_false (sum_to n f))
sum_parts n (suc m) f =
    ap (λ (k : ℕ). sum_to k f) (add-suc n m) ∙ ap (λ (x : Bool). xor_b x (f (n + m))) (sum_parts n m f)
    ∙ bit_law (λ x y z. xor_b (xor_b x y) z) (λ x y z. xor_b x (xor_b y z)) refl (sum_to n f) (sum_to m (λ j. f (n + j))) (f (n + m))

pub sum_blocks : (p q : ℕ) (f : ℕ → Bool) → sum_to (p * q) f ≡ sum_to p (λ x. sum_to q (λ z. f (x * q + z)))
unfolding sum_to
sum_blocks zero q f = ap (λ (k : ℕ). sum_to k f) (zero-mul q)
sum_blocks (suc p) q f =
    ap (λ (k : ℕ). sum_to k f) (suc-mul p q) ∙ sum_parts (p * q) q f
    ∙ ap (λ (x : Bool). xor_b x (sum_to q (λ z. f (p * q + z)))) (sum_blocks p q f)
