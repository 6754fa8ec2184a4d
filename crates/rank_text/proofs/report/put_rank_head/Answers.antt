-- `rank_text::report::put_rank_head` meets its contract. Assumes nothing.
use Rattle.rank_text.specs.report.laws.Rank.{head_put}
use Rattle.rank_text.proofs.report.put_rank_head.Goals as goal

pub returns : goal.returns
returns c =
    let args = c.args in
    let put-bytes = c.put_bytes-a in
    let put-sizes = c.put_sizes-b in
    head_put args.shape _ _ _ _ _ _ _ _ _ put-bytes.ensures put-sizes.ensures c.put_field.ensures
