-- What is promised at each way out, in the definitions' terms.
--   also_laid         costs that are refused: the lesser of the two refusals
--   refused_laid      costs that are not, of a problem that is
--   made_laid         neither: the prices laid beside the problem
--   prices_asked, laid_asked   what the writing of the prices asks, of an accepted problem, and of one that is laid
--   priced_2_laid, priced_kind_laid   of a problem by its kind's number: no such kind, what is said of its kind and sizes
-- Assumes nothing.
use Rattle.std.specs.Prelude.{◌≡◌, Bool, true, false, List, [], ℕ, ◌≤◌, length, take, Option, None, Some}
use Rattle.std.proofs.Common.{sym, ◌∙◌, subst, arith, length-take-le}
use Rattle.std.proofs.Math.Path.{ap}
use Rattle.kinds.specs.Kinds.{kind_numbered}
use Rattle.kinds.specs.Limits.{most_generators, cost_bits}
use Rattle.kinds.specs.Sizes.{shape_of}
use Rattle.kinds.specs.Refusal.{Answer, accepted, need, follow, also}
use Rattle.kinds.specs.declared.Kind.{Kind}
use Rattle.kinds.specs.declared.Shape.{Shape}
use Rattle.words.specs.Masks.{wide}
use Rattle.problems.specs.Problem.{Problem, problem, shaped}
use Rattle.problems.specs.Replies.{seen_posed, Laid}
use Rattle.problems.proofs.Theorems.{shaped_few}
use Rattle.problems.proofs.laws.Handed.{handed_room}
use Rattle.problems.specs.declared.Posed.{Posed}
use Rattle.problems.specs.declared.Posed.TheVariants as reply
use Rattle.problems.specs.prices.Prices.{unpriced, prices, PricedProblem, priced_problem, priced_shape, priced}
use Rattle.problems.specs.prices.Replies.{PricedLaid, PricesAsked, also_refused}
use Rattle.problems.proofs.laws.of_prices.Taken.{prices_each, prices_narrow, priced_shape_made}

-- what the writing of the prices asks: an accepted problem gives it, where its generators are c
pub prices_asked : (shape : Shape) (gs ts others costs : List ℕ) (P : Problem) (c : ℕ) (v : List ℕ) → shaped shape gs ts others ≡ accepted P
    → unpriced shape costs ≡ false → c ≡ length P.generators → most_generators ≤ length v → PricesAsked shape costs c v
prices_asked shape gs ts others costs P c v e h n m =
    let f = (shaped_few shape gs ts others P e).generators in
    record { each = prices_each shape gs ts others costs P e h ∙ sym n; few = omega arith; room = omega arith }

module _ (shape : Shape) (gs ts costs : List ℕ) {x : Posed} {g t : List ℕ} (L : Laid (shaped shape gs ts []) x g t) where
  abbrev made : Problem → Answer PricedProblem
  made P = accepted (priced_problem P (prices shape costs))

  shape_as : (b : Bool) → unpriced shape costs ≡ b → priced_shape shape gs ts costs ≡ follow (also 5 b (seen_posed g t x)) made
  unfolding priced_shape
  shape_as b e =
      ap (λ (b : Bool). follow (also 5 b (shaped shape gs ts [])) made) e ∙ ap (λ (o : Answer Problem). follow (also 5 b o) made) L.answer

  pub also_laid : (v : List ℕ) {y : Posed} → unpriced shape costs ≡ true → y ≡ also_refused 5 x → PricedLaid (priced_shape shape gs ts costs) y g t v
  also_laid v {y} e q = subst (λ (z : Posed). PricedLaid (priced_shape shape gs ts costs) z g t v) (sym q) (go x (shape_as true e))
    where
      go : (x : Posed) → priced_shape shape gs ts costs ≡ follow (also 5 true (seen_posed g t x)) made
          → PricedLaid (priced_shape shape gs ts costs) (also_refused 5 x) g t v
      go (reply.Refused f) a = record { answer = a; room = tt; fit = tt }
      go (reply.Are c u) a = record { answer = a; room = tt; fit = tt }

  module _ (h : unpriced shape costs ≡ false) where
    pub refused_laid : (v : List ℕ) {e : ℕ} → x ≡ reply.Refused e → PricedLaid (priced_shape shape gs ts costs) x g t v
    refused_laid v q =
        subst (λ (z : Posed). PricedLaid (priced_shape shape gs ts costs) z g t v) (sym q)
        (record { answer = shape_as false h ∙ ap (λ (z : Posed). follow (seen_posed g t z) made) q; room = tt; fit = tt })

    module _ {c u : ℕ} (q : x ≡ reply.Are c u) where
      accepted_as : shaped shape gs ts [] ≡ accepted (problem (take c g) (take u t))
      accepted_as = L.answer ∙ ap (seen_posed g t) q

      pub laid_asked : (v : List ℕ) → most_generators ≤ length g → most_generators ≤ length v → PricesAsked shape costs c v
      laid_asked v a b =
          let r = (handed_room L q).generators in
          prices_asked shape gs ts [] costs (problem (take c g) (take u t)) c v accepted_as h (sym (length-take-le c g (omega arith))) b

      pub made_laid : (v : List ℕ) → most_generators ≤ length g → take c v ≡ prices shape costs
          → PricedLaid (priced_shape shape gs ts costs) (reply.Are c u) g t v
      made_laid v a w =
          let P : Problem = problem (take c g) (take u t) in
          let r = (handed_room L q).generators in
          record {
            answer = priced_shape_made shape gs ts costs P accepted_as h ∙ ap (λ (l : List ℕ). accepted (priced_problem P l)) (sym w);
            room = handed_room L q;
            fit = record {
              each = ap length w ∙ prices_each shape gs ts [] costs P accepted_as h ∙ length-take-le c g (omega arith);
              narrow = ap (wide cost_bits) w ∙ prices_narrow shape gs ts [] costs P accepted_as h;
            };
          }

-- ---- the kind by its number
module _ (number p q r : ℕ) (gs ts costs g t v : List ℕ) where
  priced_of : (o : Option Kind) → kind_numbered number ≡ o → priced number p q r gs ts costs ≡ need 2 o λ kd. priced_shape (shape_of kd p q r) gs ts costs
  unfolding priced
  priced_of o e = ap (λ (o : Option Kind). need 2 o λ kd. priced_shape (shape_of kd p q r) gs ts costs) e

  pub priced_2_laid : kind_numbered number ≡ None → PricedLaid (priced number p q r gs ts costs) (reply.Refused 2) g t v
  priced_2_laid e = record { answer = priced_of None e; room = tt; fit = tt }

  pub priced_kind_laid : (kd : Kind) (x : Posed) → kind_numbered number ≡ Some kd → PricedLaid (priced_shape (shape_of kd p q r) gs ts costs) x g t v
      → PricedLaid (priced number p q r gs ts costs) x g t v
  priced_kind_laid kd x K L = record { answer = priced_of (Some kd) K ∙ L.answer; room = L.room; fit = L.fit }
