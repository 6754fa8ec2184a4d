-- `printing::put_bytes` meets its contract. Assumes nothing.
use Rattle.std.specs.Prelude.{◌≡◌, refl, ℕ, length}
use Rattle.std.proofs.Common.{ap, arith, add-zero}
use Rattle.std.proofs.lemmas.List.Edits.{sets}
use Rattle.printing.specs.laws.Print.{bytes_step, bytes_end}
use Rattle.printing.proofs.put_bytes.Goals as goal

pub loop-i-init : goal.loop-i-init
loop-i-init c = ap (λ (n : ℕ). sets c.args.out.now n c.args.s.now) (add-zero c.args.at)

pub loop-i-preserved : goal.loop-i-preserved
loop-i-preserved c =
    bytes_step c.args.s.now _ _ _ c.loop-i.i _ _ c.loop-i-test.true refl c.put_byte.ensures c.loop-i.invariant

pub returns : goal.returns
returns c =
    let e : c.loop-i.i ≡ length c.args.s.now = omega arith in
    (refl, bytes_end c.args.s.now _ _ c.loop-i.i _ e c.loop-i.invariant)
