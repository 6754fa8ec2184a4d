-- `check_text::replies::put_verdict` meets its contract. Assumes nothing.
use native.Mathlib.Omega.{arith}
use Rattle.check_text.specs.replies.laws.Pieces.{right_put, wrong_put}
use Rattle.check_text.proofs.replies.put_verdict.Goals as goal

pub put_field-requires : goal.put_field-requires
put_field-requires c =
    let pre = c.requires in
    let put-bytes2 = c.put_bytes-a in
    omega (arith, pre, put-bytes2.ensures.0)

pub returns-in-Right : goal.returns-in-Right
returns-in-Right c =
    let put-bytes = c.put_bytes in
    rw c.in-Right.is (right_put _ _ _ _ put-bytes.ensures)

pub returns-in-Wrong : goal.returns-in-Wrong
returns-in-Wrong c =
    let put-bytes2 = c.put_bytes-a in
    let put-field = c.put_field in
    rw c.in-Wrong.is (wrong_put _ _ _ _ _ _ _ put-bytes2.ensures put-field.ensures)
