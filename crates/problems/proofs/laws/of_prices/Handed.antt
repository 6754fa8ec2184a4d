-- A problem with prices that was handed in, laid out in the arrays g, t and v: what a definition that follows it says, and its counts.
--   problem_laid                              the problem alone, so that `laws/Handed` speaks of it: handed_room, few_handed, targets_handed
--   priced_refused, priced_made               what follows the problem
--   prices_handed, narrow_handed              a price for each generator in use, of at most 16 bits
-- Assumes nothing.
use Rattle.std.specs.Prelude.{◌≡◌, refl, false, List, ℕ, ◌≤◌, length, take}
use Rattle.std.proofs.Common.{sym, ap, ap₂, ◌∙◌, subst, arith, length-take-le}
use Rattle.kinds.specs.Limits.{most_generators, cost_bits}
use Rattle.kinds.specs.Refusal.{Answer, refused, accepted, follow}
use Rattle.words.specs.Masks.{wide}
use Rattle.problems.specs.Problem.{Problem, problem}
use Rattle.problems.specs.Replies.{seen_posed, Laid}
use Rattle.problems.proofs.laws.Handed.{handed_room}
use Rattle.problems.specs.declared.Posed.{Posed}
use Rattle.problems.specs.declared.Posed.TheVariants as answer
use Rattle.problems.specs.prices.Prices.{PricedProblem, priced_problem}
use Rattle.problems.specs.prices.Replies.{seen_priced, Priced, PricesFit, PricedLaid}

-- the problem of what was asked
abbrev pub problem_of : Answer PricedProblem → Answer Problem
problem_of asked = follow asked λ Q. accepted Q.problem

module _ {asked : Answer PricedProblem} {x : Posed} {g t v : List ℕ} (L : PricedLaid asked x g t v) where
  pub problem_laid : Laid (problem_of asked) x g t
  problem_laid = record { answer = ap problem_of L.answer ∙ go x; room = L.room }
    where
      go : (x : Posed) → problem_of (seen_priced g t v x) ≡ seen_posed g t x
      go (answer.Refused e) = refl
      go (answer.Are c u) = refl

  pub priced_refused : {A : Type 0} (f : PricedProblem → Answer A) {e : ℕ} → x ≡ answer.Refused e → follow asked f ≡ refused e
  priced_refused f q = ap (λ (a : Answer PricedProblem). follow a f) (L.answer ∙ ap (seen_priced g t v) q)

  module _ {c u : ℕ} (q : x ≡ answer.Are c u) where
    -- G, T and W are the parts of the arrays in use
    pub priced_made : {A : Type 0} (f : PricedProblem → Answer A) {G T W : List ℕ} → G ≡ take c g → T ≡ take u t → W ≡ take c v
        → follow asked f ≡ f (priced_problem (problem G T) W)
    priced_made f {G} {T} a b w =
        ap (λ (y : Answer PricedProblem). follow y f) (L.answer ∙ ap (seen_priced g t v) q)
        ∙ ap₂ (λ (G T : List ℕ). f (priced_problem (problem G T) (take c v))) (sym a) (sym b)
        ∙ ap (λ (W : List ℕ). f (priced_problem (problem G T) W)) (sym w)

    fits : Priced c v
    fits = subst (PricesFit v) q L.fit

    pub prices_handed : {G W : List ℕ} → most_generators ≤ length g → G ≡ take c g → W ≡ take c v → length W ≡ length G
    prices_handed l a w =
        ap length w ∙ fits.each ∙ sym (ap length a ∙ length-take-le c g (let m = (handed_room problem_laid q).generators in omega arith))

    pub narrow_handed : {W : List ℕ} → W ≡ take c v → wide cost_bits W ≡ false
    narrow_handed w = ap (wide cost_bits) w ∙ fits.narrow
