-- The search for the next number of a row whose bucket has a pair.
--   Filling .. h                               == no number so far has such a bucket
--   filling_start, filling_bare, filling_empty   at first; past a number without a value; past one whose bucket has no pair
--   filling_found, filling_last, filling_end     at such a number, at n, and behind n
-- Assumes nothing.
use Rattle.std.specs.Prelude.{◌≡◌, ◌≢◌, ◌⊎◌, List, ℕ, suc, ◌+◌, ◌<◌, ◌≤◌, get_or}
use Rattle.std.proofs.Common.{sym, subst, ⊎_elim, arith}
use Rattle.std.specs.Int.Bits.{bit_xor}
use Rattle.words.specs.tables.laws.Seek.{either}
use Rattle.relations.specs.pairs.Bucket.{bucket_of}
use Rattle.relations.specs.rows.Rows.{NextFilled}

pub record Filling (v : List ℕ) (n : ℕ) (heads : List ℕ) (x from h : ℕ) : Type 0 where
  pub low : from ≤ h
  pub high : h ≤ suc n
  pub none : (k : ℕ) → from ≤ k → k < h → (k ≡ n) ⊎ (get_or v k 0 ≢ 0) → get_or heads (bucket_of (bit_xor x (get_or v k 0))) 0 ≡ 0

module _ (v : List ℕ) (n : ℕ) (heads : List ℕ) (x from : ℕ) where
  abbrev head_of : ℕ → ℕ
  head_of k = get_or heads (bucket_of (bit_xor x (get_or v k 0))) 0

  pub filling_start : from ≤ suc n → Filling v n heads x from from
  filling_start l = record { low = omega arith; high = l; none = λ k a b. absurd (omega arith) }

  module _ (h : ℕ) (F : Filling v n heads x from h) where
    next : h ≤ n → ((h ≡ n) ⊎ (get_or v h 0 ≢ 0) → head_of h ≡ 0) → Filling v n heads x from (h + 1)
    next l z =
        record {
          low = omega (arith, F.low);
          high = omega arith;
          none = λ k a b. either h k (λ e. subst (λ (m : ℕ). (m ≡ n) ⊎ (get_or v m 0 ≢ 0) → head_of m ≡ 0) (sym e) z) (λ k≢. F.none k a (omega arith));
        }

    pub filling_bare : h < n → get_or v h 0 ≡ 0 → Filling v n heads x from (h + 1)
    filling_bare l e = next (omega arith) (⊎_elim (λ q. absurd (omega arith)) (λ q. absurd (q e)))

    pub filling_empty : h < n → head_of h ≡ 0 → Filling v n heads x from (h + 1)
    filling_empty l e = next (omega arith) (λ q. e)

    pub filling_found : head_of h ≢ 0 → NextFilled v n heads x from h
    filling_found ne = record { low = F.low; high = F.high; none = F.none; filled = λ l. ne }

    pub filling_end : n < h → NextFilled v n heads x from h
    filling_end l = record { low = F.low; high = F.high; none = F.none; filled = λ k. absurd (omega arith) }

    pub filling_last : n ≤ h → h ≤ n → head_of n ≢ 0 → NextFilled v n heads x from n
    filling_last a b ne = record { low = omega (arith, F.low); high = omega arith; none = λ k c d. F.none k c (omega arith); filled = λ l. ne }

    pub filling_none : n ≤ h → h ≤ n → head_of n ≡ 0 → NextFilled v n heads x from (n + 1)
    filling_none a b z =
        record {
          low = omega (arith, F.low);
          high = omega arith;
          none = λ k c d. either n k (λ e q. subst (λ (m : ℕ). head_of m ≡ 0) (sym e) z) (λ k≢. F.none k c (omega arith));
          filled = λ l. absurd (omega arith);
        }
