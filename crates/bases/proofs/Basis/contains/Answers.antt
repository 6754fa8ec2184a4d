-- `bases::Basis::contains` meets its contract. Assumes nothing.
use mathlib.Core.Path.{◌≡◌, refl, ap, ◌∙◌}
use Prim.Native.Nat.{ℕ, zero, suc}
use lib.Dec.{eqb, eqb-suc-zero}
use Rattle.linear.specs.Entry.{inside}
use Rattle.linear.specs.Word.{is_zero}
use Rattle.bases.proofs.Basis.contains.Goals as goal

zero_is : (x : ℕ) → eqb x 0 ≡ is_zero x
zero_is zero = refl
zero_is (suc x) = eqb-suc-zero x

pub returns : goal.returns
unfolding inside
returns c = zero_is c.reduce.result ∙ ap is_zero c.reduce.ensures
