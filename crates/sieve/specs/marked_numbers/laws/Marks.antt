-- The search for the next number with a mark that is looked for.
--   Searching Passed ..        == every mark so far is one to pass: 0, or one other than the given
--   next_start, next_more      at its start, and one number further; next-end: at its end
--   next_none, next_found      the next marked number: at the end, and where one is found
--   with_none, with_found      the next number with a given mark: the same
-- Assumes nothing.
use Rattle.std.specs.Prelude.{◌≡◌, ◌≢◌, List, ℕ, ◌+◌, ◌<◌, ◌≤◌, get_or}
use Rattle.std.proofs.Common.{sym, subst, arith}
use Rattle.std.proofs.Math.Decide.{ℕ_discrete}
use Rattle.sieve.specs.marked_numbers.Marks.{NextMarked, NextWith}

pub record Searching (Passed : ℕ → Type 0) (marks : List ℕ) (from n j : ℕ) : Type 0 where
  pub low : from ≤ j
  pub high : j ≤ n
  pub none : (i : ℕ) → from ≤ i → i < j → Passed (get_or marks i 0)

-- the marks that the two searches pass
abbrev pub Unmarked : ℕ → Type 0
Unmarked x = x ≡ 0

abbrev pub Without : ℕ → ℕ → Type 0
Without mark x = x ≢ mark

module _ (Passed : ℕ → Type 0) (marks : List ℕ) (from n : ℕ) where
  pub next_start : from ≤ n → Searching Passed marks from n from
  next_start l = record { low = omega arith; high = l; none = λ i a b. absurd (omega arith) }

  pub next_more : (j : ℕ) → Searching Passed marks from n j → j < n → Passed (get_or marks j 0) → Searching Passed marks from n (j + 1)
  next_more j S l z = record { low = omega (arith, S.low); high = omega arith; none = λ i a b. go i a b (ℕ_discrete i j) }
    where
      go : (i : ℕ) → from ≤ i → i < j + 1 → Dec (i ≡ j) → Passed (get_or marks i 0)
      go i a b (yes e) = subst (λ (k : ℕ). Passed (get_or marks k 0)) (sym e) z
      go i a b (no k) = S.none i a (omega arith)

  -- a search that ends has passed every number below n
  pub next_end : (j : ℕ) → Searching Passed marks from n j → n ≤ j → Searching Passed marks from n n
  next_end j S l = record { low = omega (arith, S.low, S.high); high = omega arith; none = λ i a b. S.none i a (omega arith) }

module _ (marks : List ℕ) (from n j : ℕ) (S : Searching Unmarked marks from n j) where
  pub next_found : get_or marks j 0 ≢ 0 → NextMarked marks from n j
  next_found ne = record { low = S.low; high = S.high; none = S.none; marked = λ l. ne }

  pub next_none : n ≤ j → NextMarked marks from n n
  next_none l =
      let E = next_end Unmarked marks from n j S l in
      record { low = E.low; high = E.high; none = E.none; marked = λ k. absurd (omega arith) }

module _ (marks : List ℕ) (mark from n j : ℕ) (S : Searching (Without mark) marks from n j) where
  pub with_found : get_or marks j 0 ≡ mark → NextWith marks mark from n j
  with_found e = record { low = S.low; high = S.high; none = S.none; found = λ l. e }

  pub with_none : n ≤ j → NextWith marks mark from n n
  with_none l =
      let E = next_end (Without mark) marks from n j S l in
      record { low = E.low; high = E.high; none = E.none; found = λ k. absurd (omega arith) }
