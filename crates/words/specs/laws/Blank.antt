-- Arrays of zeros.
--   zero_at, zero_length   each word is 0, also past the end; how many there are
-- Assumes nothing.
use Rattle.std.specs.Prelude.{◌≡◌, List, ℕ, ◌<◌, length, get_or, replicate}
use Rattle.std.proofs.Common.{ap, ◌∙◌, arith}
use Rattle.std.proofs.Math.Decide.{dec_lt}
use Rattle.std.proofs.lemmas.List.{length-replicate, get_or-replicate}
use Rattle.std.proofs.Math.ListN.{get_or-eq_default}

zeros : (k b : ℕ) → ◌≡◌ {A = ℕ} (get_or (replicate k 0) b 0) 0
zeros k b = go (dec_lt b k)
  where
    go : Dec (b < k) → ◌≡◌ {A = ℕ} (get_or (replicate k 0) b 0) 0
    go (yes l) = get_or-replicate k b 0 0 l
    go (no n) = get_or-eq_default (replicate k 0) 0 {n = b} (omega (arith, length-replicate {A = ℕ} k 0))

pub zero_at : (k : ℕ) (l : List ℕ) → l ≡ replicate k 0 → (b : ℕ) → get_or l b 0 ≡ 0
zero_at k l e b = ap (λ (m : List ℕ). get_or m b 0) e ∙ zeros k b

pub zero_length : (k : ℕ) (l : List ℕ) → l ≡ replicate k 0 → length l ≡ k
zero_length k l e = ap length e ∙ length-replicate {A = ℕ} k 0
