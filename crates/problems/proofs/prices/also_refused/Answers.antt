-- `problems::prices::also_refused` meets its contract. Assumes nothing.
use native.Mathlib.Omega.{arith}
use mathlib.Core.Path.{◌≡◌, sym, ap, ◌∙◌}
use Prim.Native.Nat.{ℕ, min}
use Rattle.problems.specs.declared.Posed.{Posed}
use Rattle.problems.specs.declared.Posed.TheVariants as posed
use Rattle.problems.specs.prices.Replies.{also_refused}
use Rattle.problems.proofs.prices.also_refused.Goals as goal

lesser : {x : Posed} {e : ℕ} (f : ℕ) → x ≡ posed.Refused e → f ≡ min 5 e → posed.Refused f ≡ also_refused 5 x
lesser f q m = ap posed.Refused m ∙ sym (ap (also_refused 5) q)

pub returns-in_default : goal.returns-in_default
returns-in_default c = sym (ap (also_refused 5) c.in_default.is)

pub returns-then-e-lt5 : goal.returns-then-e-lt5
returns-then-e-lt5 c = lesser _ c.in-Refused.is (omega arith)

pub returns-else-e-lt5 : goal.returns-else-e-lt5
returns-else-e-lt5 c = lesser _ c.in-Refused.is (omega arith)
