-- What an accepted problem with prices is like. What is refused, and by which number, is the definition `priced` itself.
--   priced_shape_law    it is one of its kind and sizes: the problem and the costs are accepted, the prices are `prices`
--   priced_posed    its problem is accepted without the costs
--   priced_each     each generator has a price
--   priced_narrow   of at most 16 bits
--   PricedMap ..    == the sizes fit the kind, no costs were handed in, and the price of generator j is `generator_cost m j`
--   priced_map      of a kind other than list
--   PricedList ..   == the prices are the costs handed in, q of them
--   priced_list     of kind list
--   priced_taken    and it is accepted wherever its problem is and the costs are
-- Assumes nothing.
use Rattle.std.specs.Prelude.{◌≡◌, false, true, List, [], ℕ, ◌<◌, length, get_or, Option, Some}
use Rattle.std.proofs.Common.{sym, ◌∙◌, subst}
use Rattle.std.proofs.Math.Path.{ap}
use Rattle.kinds.specs.Kinds.{kind_numbered, is_list}
use Rattle.kinds.specs.Limits.{cost_bits}
use Rattle.kinds.specs.Sizes.{shape_of, sizes}
use Rattle.kinds.specs.Refusal.{accepted, need}
use Rattle.kinds.specs.declared.Kind.{Kind}
use Rattle.kinds.specs.declared.Shape.{Shape}
use Rattle.words.specs.Masks.{wide}
use Rattle.maps.specs.Costs.{generator_cost, generator_costs, costs_length, costs_at}
use Rattle.problems.specs.Problem.{Problem, shaped, posed}
use Rattle.problems.proofs.Theorems.{shaped_map, posed_shaped}
use Rattle.problems.specs.prices.Prices.{unpriced, prices, PricedProblem, priced_problem, priced_shape, priced}
use Rattle.problems.proofs.laws.of_prices.Taken.{costs_list, costs_map, prices_list, prices_sized, prices_each, prices_narrow, priced_5_not}
use Rattle.problems.proofs.laws.of_prices.Taken.{PricedShape, priced_shape_made, priced_inv}

pub record PricedMap (shape : Shape) (costs : List ℕ) (Q : PricedProblem) : Type 0 where
  pub n : ℕ
  pub m : ℕ
  pub u : ℕ
  pub sized : sizes shape ≡ Some (n, m, u)
  pub no_costs : length costs ≡ 0
  pub cost : (j : ℕ) → j < length Q.problem.generators → get_or Q.prices j 0 ≡ generator_cost m j

pub record PricedList (q : ℕ) (costs : List ℕ) (Q : PricedProblem) : Type 0 where
  pub is : Q.prices ≡ costs
  pub each : length costs ≡ q
  pub narrow : wide cost_bits costs ≡ false

module _ (shape : Shape) (gs ts costs : List ℕ) (Q : PricedProblem) (S : PricedShape shape gs ts costs Q) where
  each : length Q.prices ≡ length Q.problem.generators
  each = ap length S.prices_are ∙ prices_each shape gs ts [] costs Q.problem S.posed S.costs_fit

  narrow : wide cost_bits Q.prices ≡ false
  narrow = ap (wide cost_bits) S.prices_are ∙ prices_narrow shape gs ts [] costs Q.problem S.posed S.costs_fit

  map : is_list shape.kind ≡ false → PricedMap shape costs Q
  map d =
      let M = shaped_map shape gs ts [] Q.problem S.posed d in
      let is : Q.prices ≡ generator_costs M.n M.m = S.prices_are ∙ prices_sized shape costs d M.sized in
      record {
        n = M.n;
        m = M.m;
        u = M.u;
        sized = M.sized;
        no_costs = costs_map shape costs S.costs_fit d;
        cost = (λ j h. ap (λ (l : List ℕ). get_or l j 0) is
            ∙ costs_at M.n M.m j (subst (λ (k : ℕ). j < k) (sym each ∙ ap length is ∙ costs_length M.n M.m) h));
      }

  list : is_list shape.kind ≡ true → PricedList shape.q costs Q
  list d =
      record {
        is = S.prices_are ∙ prices_list shape costs d;
        each = costs_list shape costs S.costs_fit d;
        narrow = (priced_5_not shape costs S.costs_fit).1;
      }

-- ---- the kind by its number
module _ (p q r : ℕ) (gs ts costs : List ℕ) (Q : PricedProblem) (number : ℕ) (e : priced number p q r gs ts costs ≡ accepted Q) where
  abbrev N : (kd : Kind) × (kind_numbered number ≡ Some kd) × PricedShape (shape_of kd p q r) gs ts costs Q
  N = priced_inv number p q r gs ts costs Q e

  pub priced_shape_law : (kd : Kind) → kind_numbered number ≡ Some kd → PricedShape (shape_of kd p q r) gs ts costs Q
  priced_shape_law kd a =
      let k : N.0 ≡ kd = (let b = N.1 in cc) in
      subst (λ (x : Kind). PricedShape (shape_of x p q r) gs ts costs Q) k N.2

  pub priced_posed : posed number p q r gs ts [] ≡ accepted Q.problem
  unfolding posed
  priced_posed = ap (λ (o : Option Kind). need 2 o λ kd. shaped (shape_of kd p q r) gs ts []) N.1 ∙ N.2.posed

  pub priced_each : length Q.prices ≡ length Q.problem.generators
  priced_each = each (shape_of N.0 p q r) gs ts costs Q N.2

  pub priced_narrow : wide cost_bits Q.prices ≡ false
  priced_narrow = narrow (shape_of N.0 p q r) gs ts costs Q N.2

  pub priced_map : (kd : Kind) → kind_numbered number ≡ Some kd → is_list kd ≡ false → PricedMap (shape_of kd p q r) costs Q
  priced_map kd a d = map (shape_of kd p q r) gs ts costs Q (priced_shape_law kd a) d

  pub priced_list : (kd : Kind) → kind_numbered number ≡ Some kd → is_list kd ≡ true → PricedList q costs Q
  priced_list kd a d = list (shape_of kd p q r) gs ts costs Q (priced_shape_law kd a) d

pub priced_taken : (number p q r : ℕ) (gs ts costs : List ℕ) (P : Problem) (kd : Kind) → kind_numbered number ≡ Some kd
    → posed number p q r gs ts [] ≡ accepted P → unpriced (shape_of kd p q r) costs ≡ false
    → priced number p q r gs ts costs ≡ accepted (priced_problem P (prices (shape_of kd p q r) costs))
unfolding priced
priced_taken number p q r gs ts costs P kd a e h =
    ap (λ (o : Option Kind). need 2 o λ kd. priced_shape (shape_of kd p q r) gs ts costs) a
    ∙ priced_shape_made (shape_of kd p q r) gs ts costs P (posed_shaped p q r gs ts [] P number e kd a) h
