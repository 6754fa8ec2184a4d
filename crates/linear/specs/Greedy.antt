-- The greedy choice of generators: of the numbers in order each that passes a test and whose generator is not yet in the span of what is taken.
--   wanted ok C i     == the number i passes, and its generator is not in the span of C
--   greedy ok C n i   == the numbers taken among i, .., i + n - 1, starting from C
-- Used with the test "inside a space" (`Extension`) and "in a selection" (`Part`). Laws: proofs/laws/Greedy. Assumes nothing.
use Rattle.std.specs.Prelude.{Bool, cond, not, ◌&&◌, List, [], ◌∷◌, ℕ, zero, suc}
use Rattle.linear.specs.Space.{Space}
use Rattle.linear.specs.Basis.{insert}
use Rattle.linear.specs.Entry.{inside, generator}

module _ (S : Space) (gens : List S.Vec) where
  open S use {Vec}

  -- does the number pass the test, its generator not being in the span of C
  unfoldable pub wanted : (ℕ → Bool) → List Vec → ℕ → Bool
  wanted ok C i = ok i && not (inside S C (generator S gens i))

  -- scan the numbers i, .., i + n - 1, and take each that passes and whose generator is not in the span of what is taken
  unfoldable pub greedy : (ℕ → Bool) → List Vec → ℕ → ℕ → List ℕ
  greedy ok C zero i = []
  greedy ok C (suc n) i =
      let r = greedy ok (cond (wanted ok C i) (insert S C (generator S gens i)) C) n (suc i) in cond (wanted ok C i) (i ∷ r) r
