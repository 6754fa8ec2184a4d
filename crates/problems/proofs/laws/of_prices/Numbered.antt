-- A problem with prices is never refused by 0.
--   priced_shape_numbered, priced_numbered
-- Assumes nothing.
use Rattle.std.specs.Prelude.{List, [], ℕ}
use Rattle.std.proofs.Common.{arith}
use Rattle.kinds.specs.Kinds.{kind_numbered}
use Rattle.kinds.specs.Sizes.{shape_of}
use Rattle.kinds.specs.Numbers.{NotByZero}
use Rattle.kinds.specs.laws.Numbers.{need_numbered, follow_numbered, also_numbered}
use Rattle.kinds.specs.Refusal.{also}
use Rattle.kinds.specs.declared.Shape.{Shape}
use Rattle.problems.specs.Problem.{shaped}
use Rattle.problems.proofs.laws.Numbered.{shaped_numbered}
use Rattle.problems.specs.prices.Prices.{unpriced, priced_shape, priced}

pub priced_shape_numbered : (shape : Shape) (gs ts costs : List ℕ) → NotByZero (priced_shape shape gs ts costs)
unfolding priced_shape
priced_shape_numbered shape gs ts costs =
    follow_numbered (also 5 (unpriced shape costs) (shaped shape gs ts [])) _
    (also_numbered 5 (unpriced shape costs) (shaped shape gs ts []) (omega arith) (shaped_numbered shape gs ts []))
    λ P. tt

pub priced_numbered : (number p q r : ℕ) (gs ts costs : List ℕ) → NotByZero (priced number p q r gs ts costs)
unfolding priced
priced_numbered number p q r gs ts costs =
    need_numbered 2 (kind_numbered number) _ (omega arith) λ kd. priced_shape_numbered (shape_of kd p q r) gs ts costs
