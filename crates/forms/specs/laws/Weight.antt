-- Bounds of a weight.
--   weight_most   at most as many ones as coordinates
--   weight_some   at least one, where a coordinate is 1
--   mask_weight   at least one of a number that is not 0
-- Assumes nothing.
use Rattle.std.specs.Prelude.{◌≡◌, refl, ◌≢◌, Bool, true, false, cond, ℕ, zero, suc, ◌^◌, ◌<◌, ◌≤◌}
use Rattle.std.proofs.Common.{sym, ◌∙◌, subst, true≢false, arith}
use Rattle.std.proofs.Math.Decide.{dec_lt}
use Rattle.linear.specs.Bit.{bit, top}
use Rattle.linear.specs.laws.Bit.{top_one}
use Rattle.linear.proofs.laws.Word.{top_below}
use Rattle.forms.specs.Weight.{weight}

pub weight_most : (w x : ℕ) → weight w x ≤ w
unfolding weight
weight_most zero x = omega arith
weight_most (suc w) x = go (bit x w) (weight_most w x)
  where
    go : (t : Bool) → weight w x ≤ w → cond t (suc (weight w x)) (weight w x) ≤ suc w
    go true h = omega arith
    go false h = omega arith

pub weight_some : (w x i : ℕ) → i < w → bit x i ≡ true → 1 ≤ weight w x
unfolding weight
weight_some zero x i h e = absurd (omega arith)
weight_some (suc w) x i h e = go (bit x w) refl (dec_lt i w) (λ l. weight_some w x i l e)
  where
    go : (t : Bool) → bit x w ≡ t → Dec (i < w) → (i < w → 1 ≤ weight w x) → 1 ≤ cond t (suc (weight w x)) (weight w x)
    go true f d r = omega arith
    go false f (yes l) r = r l
    go false f (no l) r = absurd (let s : i ≡ w = omega arith in true≢false (sym e ∙ subst (λ (k : ℕ). bit x k ≡ false) (sym s) f))

pub mask_weight : (w x : ℕ) → 1 ≤ x → x < 2 ^ w → 1 ≤ weight w x
mask_weight w x h k = let n : x ≢ 0 = (λ e. omega arith) in weight_some w x (top x) (top_below w x n k) (not_false (bit x (top x)) (top_one x n))
  where
    not_false : (b : Bool) → b ≢ false → b ≡ true
    not_false true h = refl
    not_false false h = absurd (h refl)
