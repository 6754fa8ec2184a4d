-- Document 01's line 8 for Rank: "k .. is not 0 in a Rank".
--   rank_far, rank_near   where k is not 0, and where it is
-- Assumes nothing.
use Rattle.std.specs.Prelude.{◌≡◌, Bool, not, List, ℕ}
use Rattle.std.proofs.Math.Path.{ap}
use Rattle.std.proofs.Common.{eq-eqb, ne_eqb}
use Rattle.kinds.specs.Refusal.{refused, refuse}
use Rattle.problems.specs.Problem.{Problem}
use Rattle.rank.specs.Rank.{rank_for}
use Rattle.rank.specs.fewest.Fewest.{ranking}

module _ (x : Problem) (prices : List ℕ) (k : ℕ) (old : List ℕ) where
  pub rank_far : (k ≡ 0 → ⊥) → rank_for x prices k old ≡ refused 8
  unfolding rank_for
  rank_far n = ap (λ (t : Bool). refuse 8 (not t) (ranking x.generators x.targets prices old)) (ne_eqb k 0 n)

  pub rank_near : k ≡ 0 → rank_for x prices k old ≡ ranking x.generators x.targets prices old
  unfolding rank_for
  rank_near z = ap (λ (t : Bool). refuse 8 (not t) (ranking x.generators x.targets prices old)) (eq-eqb k 0 z)
