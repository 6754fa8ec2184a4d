-- A problem is never refused by 0.
--   posed_numbered
-- Assumes nothing.
use Rattle.std.specs.Prelude.{Bool, true, false, cond, ◌||◌, List, ℕ, ◌*◌, ltb}
use Rattle.std.proofs.Common.{arith}
use Rattle.kinds.specs.Kinds.{kind_numbered, is_list}
use Rattle.kinds.specs.Sizes.{shape_of, sizes}
use Rattle.kinds.specs.Limits.{most_generators}
use Rattle.kinds.specs.Numbers.{NotByZero}
use Rattle.kinds.specs.laws.Numbers.{need_numbered, refuse_numbered}
use Rattle.kinds.specs.Refusal.{Answer}
use Rattle.kinds.specs.declared.Shape.{Shape}
use Rattle.words.specs.Masks.{wide, zero_in}
use Rattle.words.specs.lists.Lists.{repeats, unlike}
use Rattle.maps.specs.Generators.{count_of}
use Rattle.problems.specs.Problem.{listed, mapped, shaped, posed}

listed_numbered : (p q r : ℕ) (gs ts others : List ℕ) → NotByZero (listed p q r gs ts others)
unfolding listed
listed_numbered p q r gs ts others =
    refuse_numbered 4 (ltb most_generators q) _ (omega arith)
    (refuse_numbered 5 (unlike q r gs ts) _ (omega arith)
    (refuse_numbered 6 (wide p gs || (wide p ts || wide p others)) _ (omega arith)
    (refuse_numbered 7 (zero_in gs || repeats gs) _ (omega arith) tt)))

mapped_numbered : (shape : Shape) (n m u : ℕ) (gs ts others : List ℕ) → NotByZero (mapped shape n m u gs ts others)
unfolding mapped
mapped_numbered shape n m u gs ts others =
    need_numbered 4 (count_of n m) _ (omega arith) λ c.
    refuse_numbered 5 (unlike 0 0 gs ts) _ (omega arith)
    (refuse_numbered 6 (wide (n * m) others) _ (omega arith) tt)

either_numbered : {A : Type 0} (b : Bool) (x y : Answer A) → NotByZero x → NotByZero y → NotByZero (cond b x y)
either_numbered true x y i j = i
either_numbered false x y i j = j

pub shaped_numbered : (shape : Shape) (gs ts others : List ℕ) → NotByZero (shaped shape gs ts others)
unfolding shaped
shaped_numbered shape gs ts others =
    need_numbered 3 (sizes shape) _ (omega arith) λ z.
    either_numbered (is_list shape.kind) _ _ (listed_numbered shape.p shape.q shape.r gs ts others)
    (mapped_numbered shape z.0 z.1 z.2 gs ts others)

pub posed_numbered : (number p q r : ℕ) (gs ts others : List ℕ) → NotByZero (posed number p q r gs ts others)
unfolding posed
posed_numbered number p q r gs ts others =
    need_numbered 2 (kind_numbered number) _ (omega arith) λ kd. shaped_numbered (shape_of kd p q r) gs ts others
