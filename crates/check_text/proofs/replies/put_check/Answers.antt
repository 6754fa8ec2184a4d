-- `check_text::replies::put_check` meets its contract. Assumes nothing.
use Rattle.check_text.specs.replies.laws.Pieces.{check_put}
use Rattle.check_text.proofs.replies.put_check.Goals as goal

pub returns : goal.returns
returns c =
    check_put c.args.shape _ c.args.v _ _ _ _ _ _ _ _ _ _ _ _ c.put_bytes-a.ensures c.put_sizes-b.ensures
    c.put_verdict-c.ensures c.put_field-d.ensures c.put_bytes.ensures
