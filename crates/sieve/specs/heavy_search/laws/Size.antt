-- Of how many values a relation is sought, and what the join of values is lent.
--   all_small, sum_fits, double_fits, product_fits, bound_fits   numbers below a power of two that is at most 2 ^ 8, and what is made of them
--   size_none, size_three, size_four                             no relation is sought; of three values; of four
--   join_sized                                                   the arrays of a join
-- Assumes nothing.
use Rattle.std.specs.Prelude.{◌≡◌, refl, List, ℕ, ◌+◌, ◌-◌, ◌*◌, ◌%◌, ◌^◌, ◌<◌, ◌≤◌, length, replicate}
use Rattle.std.proofs.Common.{ap, subst, mul-le-mul, arith, pow_mono, pow-add, Fits}
use Rattle.std.proofs.lemmas.List.{length-replicate}
use Rattle.std.specs.Int.{w64}
use Rattle.linear.proofs.laws.Shift.{one_shift}
use Rattle.words.specs.laws.Blank.{zero_at}
use Rattle.relations.specs.pairs.Pairs.{head_room, link_room, Falling, Values}
use Rattle.relations.specs.Relations.{Sized}
use Rattle.sieve.specs.heavy_search.Relate.{RelationSize}
use Rattle.residues.specs.Room.{search_room}

pub size_none : (k n m : ℕ) → RelationSize k n m 0
size_none k n m = record { three = λ e. absurd (omega arith); four = λ e. absurd (e refl); deep = λ e. absurd (e refl) }

-- half of a power of two
half : (m : ℕ) → 4 ≤ m → 2 ^ m ≡ 2 ^ (m - 1) + 2 ^ (m - 1)
half m l =
    let e : m ≡ m - 1 + 1 = omega arith in
    let p : 2 ^ (m - 1 + 1) ≡ 2 ^ (m - 1) * 2 ^ 1 = pow-add 2 (m - 1) 1 in
    omega (arith, ap (λ (x : ℕ). 2 ^ x) e, p)

-- ---- what fits a word
pub all_small : (m : ℕ) → m ≤ 8 → 1 * 2 ^ m % 2 ^ 64 ≤ 256
all_small m l = let p : 2 ^ m ≤ 2 ^ 8 = pow_mono l in omega (arith, one_shift m (omega arith), p)

product_small : {c a : ℕ} → c < a → a ≤ 256 → c * (c + 1) ≤ 256 * 256
product_small {c} {a} l k = let p : c ≤ 256 = omega arith in let q : c + 1 ≤ 256 = omega arith in mul-le-mul p q

pub sum_fits : {c a : ℕ} → c < a → a ≤ 256 → Fits w64 (c + c)
sum_fits l k = record { fits = omega arith }

pub double_fits : {a : ℕ} → a ≤ 256 → Fits w64 (a + a)
double_fits k = record { fits = omega arith }

pub product_fits : {c a : ℕ} → c < a → a ≤ 256 → Fits w64 (c * (c + 1))
product_fits l k = record { fits = omega (arith, product_small l k) }

pub bound_fits : {c a : ℕ} → c < a → a ≤ 256 → Fits w64 (2 + c * (c + 1))
bound_fits l k = record { fits = omega (arith, product_small l k) }

pub size_three : (k n m c all : ℕ) → 4 ≤ m → c ≡ k - n → all ≡ 2 ^ m → all < c + c → RelationSize k n m 3
size_three k n m c all l e p q =
    record {
      three = λ z. omega (arith, half m l);
      four = λ a b. absurd (b refl);
      deep = λ z. omega arith;
    }

pub size_four : (k n m c all : ℕ) → 4 ≤ m → c ≡ k - n → all ≡ 2 ^ m → all + all < 2 + c * (c + 1) → RelationSize k n m 4
size_four k n m c all l e p q =
    record {
      three = λ z. absurd (omega arith);
      four = λ a b. omega (arith, p, q, ap (λ (x : ℕ). x * (x + 1)) e);
      deep = λ z. omega arith;
    }

-- ---- the arrays of a join
falling_none : Falling (replicate link_room 0)
falling_none x = omega (arith, zero_at link_room (replicate {A = ℕ} link_room 0) refl x)

pub join_sized : (gens d : List ℕ) (start : ℕ) (w gone v : List ℕ) → length gens ≡ length d → length gens ≤ search_room → Values d start w gone v
    → Sized gens v (replicate head_room 0) (replicate link_room 0)
join_sized gens d start w gone v over few vals =
    record {
      few = few;
      values_all = vals.whole;
      none = λ i l. vals.none i (subst (λ (n : ℕ). n ≤ i) over l);
      heads_all = length-replicate {A = ℕ} head_room 0;
      links_all = length-replicate {A = ℕ} link_room 0;
      falls = falling_none;
    }
