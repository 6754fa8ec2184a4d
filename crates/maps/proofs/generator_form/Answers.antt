-- `maps::generator_form` meets its contract. Assumes nothing.
use mathlib.Core.Path.{ap₂, ◌∙◌}
use Rattle.forms.specs.products.Product.{product_form}
use Rattle.maps.specs.Generators.{generator_form}
use Rattle.maps.proofs.Counting.{numbered_mask}
use Rattle.maps.proofs.generator_form.Goals as goal

pub first_mask-a-requires : goal.first_mask-a-requires
first_mask-a-requires c = let a = c.args in numbered_mask a.n a.m a.j c.requires

pub second_mask-b-requires : goal.second_mask-b-requires
second_mask-b-requires c = let a = c.args in numbered_mask a.n a.m a.j c.requires

pub returns : goal.returns
unfolding generator_form
returns c =
    let a = c.args in
    c.product.ensures ∙ ap₂ (product_form a.n a.m) c.first_mask-a.ensures c.second_mask-b.ensures
