-- What an accepted problem with prices is like.
--   unpriced_many, unpriced_rest    the costs' number is looked at first, then their bits
--   priced_5_not                    costs that are not refused: as many as the kind hands in, of at most 16 bits
--   costs_list, costs_map           their number for a list, and for a map
--   prices_list, prices_sized       the prices of a list, and of a map by its sizes
--   prices_each, prices_narrow      of an accepted problem each generator has a price, of at most 16 bits
--   PricedShape ..                  == the problem is accepted, and the costs with it
--   priced_shape_inv, priced_inv     an accepted problem with prices is such, and has a kind
--   priced_shape_made                and such a one is accepted
-- Assumes nothing.
use Rattle.std.specs.Prelude.{◌≡◌, refl, Bool, true, false, ◌||◌, List, [], length, eqb, Option, Some}
use Rattle.std.proofs.Common.{sym, ◌∙◌, eqb-true, eq-eqb, ne_eqb}
use Rattle.std.proofs.Math.Path.{ap}
use Rattle.std.proofs.Math.Bool.{not, cond}
use Prim.Native.Nat.{ℕ}
use Rattle.std.proofs.lemmas.Bool.{not-false}
use Rattle.kinds.specs.Kinds.{kind_numbered, is_list, handed}
use Rattle.kinds.specs.Limits.{cost_bits}
use Rattle.kinds.specs.Sizes.{shape_of, sizes}
use Rattle.kinds.specs.Refusal.{Answer, accepted, follow, also}
use Rattle.kinds.specs.laws.Refusal.{accepted_inj, need_inv, follow_inv, also_inv, neither}
use Rattle.kinds.specs.declared.Kind.{Kind}
use Rattle.kinds.specs.declared.Shape.{Shape}
use Rattle.words.specs.Masks.{wide}
use Rattle.maps.specs.Generators.{forms_length}
use Rattle.maps.specs.Costs.{costs_length, costs_narrow}
use Rattle.problems.specs.Problem.{Problem, shaped}
use Rattle.problems.proofs.Theorems.{shaped_map, shaped_list}
use Rattle.problems.specs.prices.Prices.{unpriced, map_prices, prices, PricedProblem, priced_problem, priced_shape, priced}

-- ---- the costs
module _ (shape : Shape) (costs : List ℕ) where
  pub unpriced_many : (length costs ≡ handed shape.kind shape.q → ⊥) → unpriced shape costs ≡ true
  unfolding unpriced
  unpriced_many d = ap (λ (b : Bool). not b || wide cost_bits costs) (ne_eqb (length costs) (handed shape.kind shape.q) d)

  pub unpriced_rest : length costs ≡ handed shape.kind shape.q → unpriced shape costs ≡ wide cost_bits costs
  unfolding unpriced
  unpriced_rest e = ap (λ (b : Bool). not b || wide cost_bits costs) (eq-eqb (length costs) (handed shape.kind shape.q) e)

  pub priced_5_not : unpriced shape costs ≡ false → (length costs ≡ handed shape.kind shape.q) × (wide cost_bits costs ≡ false)
  unfolding unpriced
  priced_5_not e =
      let h : ℕ = handed shape.kind shape.q in
      let n = neither (not (eqb (length costs) h)) (wide cost_bits costs) e in
      (eqb-true (length costs) h (not-false (eqb (length costs) h) n.0), n.1)

  handed_as : (b : Bool) → is_list shape.kind ≡ b → handed shape.kind shape.q ≡ cond b shape.q 0
  handed_as b d = ap (λ (x : Bool). cond x shape.q 0) d

  pub costs_list : unpriced shape costs ≡ false → is_list shape.kind ≡ true → length costs ≡ shape.q
  costs_list e d = (priced_5_not e).0 ∙ handed_as true d

  pub costs_map : unpriced shape costs ≡ false → is_list shape.kind ≡ false → length costs ≡ 0
  costs_map e d = (priced_5_not e).0 ∙ handed_as false d

  prices_as : (b : Bool) → is_list shape.kind ≡ b → prices shape costs ≡ cond b costs (map_prices (sizes shape))
  unfolding prices
  prices_as b d = ap (λ (x : Bool). cond x costs (map_prices (sizes shape))) d

  pub prices_list : is_list shape.kind ≡ true → prices shape costs ≡ costs
  prices_list d = prices_as true d

  pub prices_sized : {o : Option (ℕ × ℕ × ℕ)} → is_list shape.kind ≡ false → sizes shape ≡ o → prices shape costs ≡ map_prices o
  prices_sized d s = prices_as false d ∙ ap map_prices s

-- ---- a price for each generator
module _ (shape : Shape) (gs ts others costs : List ℕ) (P : Problem) (e : shaped shape gs ts others ≡ accepted P) (h : unpriced shape costs ≡ false) where
  pub prices_each : length (prices shape costs) ≡ length P.generators
  prices_each = go (is_list shape.kind) refl
    where
      go : (b : Bool) → is_list shape.kind ≡ b → length (prices shape costs) ≡ length P.generators
      go true d =
          let T = shaped_list shape gs ts others P e d in
          ap length (prices_list shape costs d) ∙ costs_list shape costs h d ∙ sym (ap (λ (x : Problem). length x.generators) T.is ∙ T.generators)
      go false d =
          let M = shaped_map shape gs ts others P e d in
          ap length (prices_sized shape costs d M.sized) ∙ costs_length M.n M.m
          ∙ sym (ap (λ (x : Problem). length x.generators) M.taken.is ∙ forms_length M.n M.m)

  pub prices_narrow : wide cost_bits (prices shape costs) ≡ false
  prices_narrow = go (is_list shape.kind) refl
    where
      go : (b : Bool) → is_list shape.kind ≡ b → wide cost_bits (prices shape costs) ≡ false
      go true d = ap (wide cost_bits) (prices_list shape costs d) ∙ (priced_5_not shape costs h).1
      go false d =
          let M = shaped_map shape gs ts others P e d in
          ap (wide cost_bits) (prices_sized shape costs d M.sized) ∙ costs_narrow M.n M.m

-- ---- accepted
pub record PricedShape (shape : Shape) (gs ts costs : List ℕ) (Q : PricedProblem) : Type 0 where
  pub posed : shaped shape gs ts [] ≡ accepted Q.problem
  pub costs_fit : unpriced shape costs ≡ false
  pub prices_are : Q.prices ≡ prices shape costs

pub priced_shape_inv : (shape : Shape) (gs ts costs : List ℕ) (Q : PricedProblem) → priced_shape shape gs ts costs ≡ accepted Q → PricedShape shape gs ts costs Q
unfolding priced_shape
priced_shape_inv shape gs ts costs Q e =
    let f = follow_inv (also 5 (unpriced shape costs) (shaped shape gs ts [])) (λ P. accepted (priced_problem P (prices shape costs))) Q e in
    let a = also_inv 5 (unpriced shape costs) (shaped shape gs ts []) f.0 f.1 in
    let is : priced_problem f.0 (prices shape costs) ≡ Q = accepted_inj _ Q f.2 in
    record {
      posed = a.1 ∙ ap (λ (x : PricedProblem). accepted x.problem) is;
      costs_fit = a.0;
      prices_are = sym (ap (λ (x : PricedProblem). x.prices) is);
    }

pub priced_shape_made : (shape : Shape) (gs ts costs : List ℕ) (P : Problem) → shaped shape gs ts [] ≡ accepted P → unpriced shape costs ≡ false
    → priced_shape shape gs ts costs ≡ accepted (priced_problem P (prices shape costs))
unfolding priced_shape
priced_shape_made shape gs ts costs P e h =
    let made : Problem → Answer PricedProblem = λ P. accepted (priced_problem P (prices shape costs)) in
    ap (λ (b : Bool). follow (also 5 b (shaped shape gs ts [])) made) h ∙ ap (λ (o : Answer Problem). follow o made) e

pub priced_inv : (number p q r : ℕ) (gs ts costs : List ℕ) (Q : PricedProblem) → priced number p q r gs ts costs ≡ accepted Q
    → (kd : Kind) × (kind_numbered number ≡ Some kd) × PricedShape (shape_of kd p q r) gs ts costs Q
unfolding priced
priced_inv number p q r gs ts costs Q e =
    let N = need_inv 2 (kind_numbered number) (λ kd. priced_shape (shape_of kd p q r) gs ts costs) Q e in
    (N.0, N.1, priced_shape_inv (shape_of N.0 p q r) gs ts costs Q N.2)
