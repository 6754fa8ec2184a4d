-- weight w x == how many of the coordinates of x below w are 1
-- ones-weight: the ones of a number below 2 ^ w, counted, are its weight.
-- Assumes nothing.
use Rattle.std.specs.Prelude.{◌≡◌, cond, ℕ, zero, suc, ◌+◌, ◌/◌, ◌%◌, ◌^◌, ◌<◌}
use Rattle.std.proofs.Common.{sym, ◌∙◌, mod-lt, mod-eq_of_lt, zero-lt-suc, arith, pow_pos}
use Rattle.std.proofs.Math.Path.{ap}
use Rattle.std.proofs.Math.Nat.{mod-one}
use Rattle.std.specs.Int.Count.{ones}
use Rattle.std.proofs.lemmas.Nat.{ones_cat, mod-pow-add}
use Rattle.linear.specs.Bit.{bit, bit_of}

unfoldable pub weight : ℕ → ℕ → ℕ
weight zero x = 0
weight (suc i) x = let r = weight i x in cond (bit x i) (suc r) r

digit : (d n k : ℕ) → d < 2 → n ≡ k → ones d + n ≡ cond (bit_of d) (suc k) k
unfolding ones
digit zero n k h e = omega arith
digit (suc zero) n k h e = omega arith
digit (suc (suc d)) n k h e = absurd (omega arith)

mod_weight : (w x : ℕ) → ones (x % 2 ^ w) ≡ weight w x
unfolding weight bit
mod_weight zero x = unfold ones in ap ones (mod-one x)
mod_weight (suc i) x =
    let e : suc i ≡ 1 + i = omega arith in
    ap (λ (k : ℕ). ones (x % 2 ^ k)) e ∙ ap ones (mod-pow-add x 1 i)
    ∙ ones_cat i (x / 2 ^ i % 2) (x % 2 ^ i) (mod-lt x (pow_pos i))
    ∙ digit (x / 2 ^ i % 2) (ones (x % 2 ^ i)) (weight i x) (mod-lt (x / 2 ^ i) (zero-lt-suc 1)) (mod_weight i x)

pub ones_weight : (w x : ℕ) → x < 2 ^ w → ones x ≡ weight w x
ones_weight w x h = ap ones (sym (mod-eq_of_lt h)) ∙ mod_weight w x
