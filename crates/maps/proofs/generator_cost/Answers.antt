-- `maps::generator_cost` meets its contract: each mask has a one. Assumes nothing.
use mathlib.Core.Path.{ap, ap₂, ◌∙◌}
use Prim.Native.Nat.{ℕ, ◌+◌, ◌-◌}
use native.Mathlib.Omega.{arith}
use Rattle.forms.specs.Weight.{weight}
use Rattle.maps.specs.Costs.{generator_cost, masks_light}
use Rattle.maps.proofs.generator_cost.Goals as goal

pub overflow_add-result : goal.overflow_add-result
overflow_add-result c = record {
  fits = (let l = ((masks_light _ _ c.requires)).left in let r = ((masks_light _ _ c.requires)).right in
      omega (arith, (c.ones.ensures ∙ ap (weight 64) c.first_mask-a.ensures), (c.ones-2.ensures ∙ ap (weight 64) c.second_mask-b.ensures)));
}

pub overflow_sub-result : goal.overflow_sub-result
overflow_sub-result c = let l = ((masks_light _ _ c.requires)).some_left in let r = ((masks_light _ _ c.requires)).some_right in
    omega (arith, (c.ones.ensures ∙ ap (weight 64) c.first_mask-a.ensures), (c.ones-2.ensures ∙ ap (weight 64) c.second_mask-b.ensures))

pub returns : goal.returns
unfolding generator_cost
returns c = ap₂ (λ (x y : ℕ). x + y - 2) ((c.ones.ensures ∙ ap (weight 64) c.first_mask-a.ensures)) ((c.ones-2.ensures ∙ ap (weight 64)
    c.second_mask-b.ensures))
