-- Numbers that are marked: their mark is not 0.
--   NextMarked marks from n r      == r is the first marked number from `from` on and below n, or n if there is none
--   NextWith marks mark from n r   == r is the first number from `from` on and below n whose mark is `mark`, or n if there is none
-- Laws: laws/Marks. Assumes nothing.
use Rattle.std.specs.Prelude.{◌≡◌, ◌≢◌, List, ℕ, ◌<◌, ◌≤◌, get_or}

pub record NextMarked (marks : List ℕ) (from n r : ℕ) : Type 0 where
  pub low : from ≤ r
  pub high : r ≤ n
  pub none : (i : ℕ) → from ≤ i → i < r → get_or marks i 0 ≡ 0
  pub marked : r < n → get_or marks r 0 ≢ 0

pub record NextWith (marks : List ℕ) (mark from n r : ℕ) : Type 0 where
  pub low : from ≤ r
  pub high : r ≤ n
  pub none : (i : ℕ) → from ≤ i → i < r → get_or marks i 0 ≢ mark
  pub found : r < n → get_or marks r 0 ≡ mark
