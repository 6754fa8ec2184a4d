-- How many rising lists there are: m! times their number is at most n ^ m. So six numbers out of 4,095 can be chosen in fewer than 2 ^ 64 ways.
--   rising_length   there are n over m of them
--   rising_count    m! × their number ≤ n ^ m
--   entries_count   so there are fewer than 2 ^ 64 entries for k up to ℓ + 6 with at most 4,095 generators
-- Assumes nothing.
use Rattle.std.specs.Prelude.{◌≡◌, refl, List, [], ◌∷◌, map, ℕ, zero, suc, ◌+◌, ◌-◌, ◌*◌, ◌^◌, ◌<◌, ◌≤◌, length}
use Rattle.std.proofs.Common.{sym, ap, ap₂, ◌∙◌, subst, pow-suc, one-mul, mul-suc, suc-mul, add-mul, mul-add, mul_assoc, mul-le-mul_left, mul-le-mul_right, le_trans, mul_comm, arith, length-append}
use Rattle.std.proofs.Math.Nat.{pow-zero, pow-le-pow_left}
use Rattle.std.proofs.lemmas.List.{length-map}
use Rattle.linear.specs.Space.{Space}
use Rattle.linear.specs.Basis.{dim}
use Rattle.linear.specs.Order.{rising_lists, factorial}
use Rattle.linear.specs.Entry.{same_basis, fits, space, entries}
use Rattle.linear.proofs.laws.Select.{first_length}

-- n over m
unfoldable pub choose : ℕ → ℕ → ℕ
choose n zero = 1
choose zero (suc m) = 0
choose (suc n) (suc m) = choose n m + choose n (suc m)

pub rising_length : (n i m : ℕ) → length (rising_lists n i m) ≡ choose n m
unfolding rising_lists choose
rising_length n i zero = refl
rising_length zero i (suc m) = refl
rising_length (suc n) i (suc m) =
    length-append (map (λ es. i ∷ es) (rising_lists n (suc i) m)) (rising_lists n (suc i) (suc m))
    ∙ ap₂ ◌+◌ (length-map (rising_lists n (suc i) m) (λ es. i ∷ es) ∙ rising_length n (suc i) m) (rising_length n (suc i) (suc m))

bernoulli : (n m : ℕ) → suc m * n ^ m + n ^ suc m ≤ suc n ^ suc m
bernoulli n zero =
    let one_pow : (x : ℕ) → x ^ suc 0 ≡ x = (λ x. pow-suc x 0 ∙ ap (λ (y : ℕ). y * x) (pow-zero x) ∙ one-mul x) in
    omega (arith, one_pow n, one_pow (suc n), pow-zero n, one-mul (n ^ 0))
bernoulli n (suc m) =
    let A : ℕ = n ^ m in
    let B : ℕ = n ^ suc m in
    let P : ℕ = suc n ^ suc m in
    let ih : suc m * A + B ≤ P = bernoulli n m in
    step (suc m * A) B P (suc m * B) (B * n) (P * n) ih
    (let f : (suc m * A + B) * n ≤ P * n = mul-le-mul_right n ih in
    let g : (suc m * A + B) * n ≡ suc m * B + B * n = add-mul (suc m * A) B n ∙ ap (λ (x : ℕ). x + B * n) (mul_assoc (suc m) A n ∙ ap (λ (x : ℕ). suc m * x)
    (sym (pow-suc n m))) in
    subst (λ (x : ℕ). x ≤ P * n) g f)
    (suc-mul (suc m) B) (pow-suc n (suc m)) (pow-suc (suc n) (suc m) ∙ mul-suc P n)
  where
    step : (a b p c d q : ℕ) → a + b ≤ p → c + d ≤ q → {x y z : ℕ} → x ≡ c + b → y ≡ d → z ≡ q + p → x + y ≤ z
    step a b p c d q i j e f g = omega arith

pub choose_bound : (n m : ℕ) → factorial m * choose n m ≤ n ^ m
unfolding choose factorial
choose_bound n zero = simp pow-zero (omega arith)
choose_bound zero (suc m) = omega (arith, mul_comm (suc m * factorial m) 0)
choose_bound (suc n) (suc m) =
    let F : ℕ = factorial m in
    let a : F * choose n m ≤ n ^ m = choose_bound n m in
    let b : suc m * F * choose n (suc m) ≤ n ^ suc m = choose_bound n (suc m) in
    let c : suc m * (F * choose n m) ≤ suc m * n ^ m = mul-le-mul_left (suc m) a in
    let d : suc m * F * (choose n m + choose n (suc m)) ≡ suc m * (F * choose n m) + suc m * F * choose n (suc m) =
    mul-add (suc m * F) (choose n m) (choose n (suc m)) ∙ ap (λ (x : ℕ). x + suc m * F * choose n (suc m)) (mul_assoc (suc m) F (choose n m)) in
    step c b d (bernoulli n m)
  where
    step : {p q r s t u : ℕ} → p ≤ q → r ≤ s → t ≡ p + r → q + s ≤ u → t ≤ u
    step i j e f = omega arith

pub rising_count : (n i m : ℕ) → factorial m * length (rising_lists n i m) ≤ n ^ m
rising_count n i m = subst (λ (x : ℕ). factorial m * x ≤ n ^ m) (sym (rising_length n i m)) (choose_bound n m)

-- up to six numbers out of 4,095
choose_small : (n m : ℕ) → n ≤ 4095 → m ≤ 6 → choose n m < 2 ^ 64
unfolding factorial
choose_small n m h k = go m k
  where
    at : (m : ℕ) → factorial m * choose n m ≤ 4095 ^ m
    at m = le_trans (choose_bound n m) (pow-le-pow_left h m)

    go : (m : ℕ) → m ≤ 6 → choose n m < 2 ^ 64
    go zero k = omega (arith, at 0)
    go (suc zero) k = omega (arith, at 1)
    go (suc (suc zero)) k = omega (arith, at 2)
    go (suc (suc (suc zero))) k = omega (arith, at 3)
    go (suc (suc (suc (suc zero)))) k = omega (arith, at 4)
    go (suc (suc (suc (suc (suc zero))))) k = omega (arith, at 5)
    go (suc (suc (suc (suc (suc (suc zero)))))) k = omega (arith, at 6)
    go (suc (suc (suc (suc (suc (suc (suc m))))))) k = absurd (omega arith)

pub entries_count : (S : Space) (gens targets : List S.Vec) (k : ℕ) → length gens ≤ 4095 → k ≤ dim S targets + 6
    → length (entries S gens targets k) < 2 ^ 64
unfolding entries
entries_count S gens targets k h l =
    let m : ℕ = k - dim S targets in
    let a = first_length (space S gens targets) (fits S gens k) (same_basis S) (rising_lists (length gens) 0 m) [] in
    let b : length (rising_lists (length gens) 0 m) ≡ choose (length gens) m = rising_length (length gens) 0 m in
    let c : choose (length gens) m < 2 ^ 64 = choose_small (length gens) m h (omega arith) in
    omega (arith, a, b, c)
