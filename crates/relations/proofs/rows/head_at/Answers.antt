-- `relations::rows::head_at` meets its contract: it reads the head of the bucket. Assumes nothing.
use mathlib.Core.Path.{ap, ◌∙◌}
use Prim.Native.Nat.{ℕ}
use native.Mathlib.Omega.{arith}
use lib.Bits.{bit_xor}
use lib.ListN.{get_or}
use Rattle.relations.specs.pairs.Bucket.{bucket_of}
use Rattle.relations.proofs.rows.head_at.Goals as goal

pub overflow_cast-result : goal.overflow_cast-result
overflow_cast-result c = omega (arith, c.shared_slice_known-3-1.given c.bucket.result)

pub returns : goal.returns
returns c =
    let a = c.args in
    let value-at = c.value_at in
    ap (λ (q : ℕ). get_or a.heads.now q 0) (c.bucket.ensures.0 ∙ ap (λ (y : ℕ). bucket_of (bit_xor a.x y)) value-at.ensures)
