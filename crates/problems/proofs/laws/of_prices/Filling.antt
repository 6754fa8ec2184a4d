-- The prices written from a buffer's start.
--   list_count, list_filled     of a list: the costs are copied
--   map_made, map_filled        of a map: the costs of its generators are made
--   none_filled                 of sizes that misfit there are none
-- Assumes nothing.
use Rattle.std.specs.Prelude.{◌≡◌, true, false, List, ℕ, length, take, None, Some}
use Rattle.std.proofs.Common.{sym, ap, ◌∙◌}
use Rattle.kinds.specs.Kinds.{is_list}
use Rattle.kinds.specs.Sizes.{sizes}
use Rattle.kinds.specs.declared.Shape.{Shape}
use Rattle.maps.specs.Costs.{generator_costs, costs_length}
use Rattle.maps.specs.form_lists.Fills.{Made}
use Rattle.problems.specs.prices.Prices.{prices}
use Rattle.problems.specs.prices.Replies.{PricesAsked}
use Rattle.problems.proofs.laws.of_prices.Taken.{prices_list, prices_sized}

module _ (shape : Shape) (costs : List ℕ) (c : ℕ) {v : List ℕ} (A : PricesAsked shape costs c v) where
  module _ (d : is_list shape.kind ≡ true) where
    pub list_count : length costs ≡ c
    list_count = sym (ap length (prices_list shape costs d)) ∙ A.each

    pub list_filled : (w : List ℕ) → take (length costs) w ≡ costs → take c w ≡ prices shape costs
    list_filled w e = ap (λ (k : ℕ). take k w) (sym list_count) ∙ e ∙ sym (prices_list shape costs d)

  module _ (d : is_list shape.kind ≡ false) where
    module _ (n m u : ℕ) (s : sizes shape ≡ Some (n, m, u)) where
      pub map_made : Made n m c v
      map_made =
          record { count = sym (costs_length n m) ∙ sym (ap length (prices_sized shape costs d s)) ∙ A.each; few = A.few; room = A.room }

      pub map_filled : (w : List ℕ) → take c w ≡ generator_costs n m → take c w ≡ prices shape costs
      map_filled w e = e ∙ sym (prices_sized shape costs d s)

    pub none_filled : (w : List ℕ) → sizes shape ≡ None → take c w ≡ prices shape costs
    none_filled w s =
        let z : 0 ≡ c = sym (ap length (prices_sized shape costs d s)) ∙ A.each in
        ap (λ (k : ℕ). take k w) (sym z) ∙ sym (prices_sized shape costs d s)
