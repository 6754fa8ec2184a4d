-- Membership by what is left of a form.
-- Assumes nothing.
use Rattle.std.specs.Prelude.{◌≡◌, refl, ◌≢◌, Bool, true, false, not, ◌&&◌, List}
use Rattle.std.proofs.Common.{sym, ◌∙◌}
use Rattle.std.proofs.Math.Path.{ap}
use Prim.Native.Nat.{ℕ, zero, suc}
use Rattle.linear.specs.Basis.{reduce}
use Rattle.linear.specs.Entry.{inside}
use Rattle.linear.specs.Word.{word, is_zero}

pub left_none : (W : List ℕ) (g r : ℕ) → r ≡ reduce word W g → r ≡ 0 → inside word W g ≡ true
unfolding inside
left_none W g r e z = ap is_zero (sym e ∙ z)

pub left_some : (W : List ℕ) (g r : ℕ) → r ≡ reduce word W g → r ≢ 0 → inside word W g ≡ false
unfolding inside
left_some W g r e n = ap is_zero (sym e) ∙ some r n
  where
    some : (x : ℕ) → x ≢ 0 → is_zero x ≡ false
    some zero n = absurd (n refl)
    some (suc x) n = refl

pub left_out : (W C : List ℕ) (g r : ℕ) → r ≡ reduce word W g → r ≢ 0 → false ≡ (inside word W g && not (inside word C g))
left_out W C g r e n = sym (ap (λ (b : Bool). b && not (inside word C g)) (left_some W g r e n))

pub left_in : (W C : List ℕ) (g r : ℕ) (t : Bool) → r ≡ reduce word W g → r ≡ 0 → t ≡ inside word C g → not t ≡ (inside word W g && not (inside word C g))
left_in W C g r t e z f = ap not f ∙ sym (ap (λ (b : Bool). b && not (inside word C g)) (left_none W g r e z))
