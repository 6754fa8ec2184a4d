-- `rank_text::report::rank_text` meets its contract. Assumes nothing.
use Rattle.rank_text.specs.report.laws.Rank.{rank_put}
use Rattle.rank_text.proofs.report.rank_text.Goals as goal

pub returns : goal.returns
returns c =
    let args = c.args in
    let put-rank-head = c.put_rank_head-a in
    let put-field = c.put_field-b in
    let put-bytes = c.put_bytes-c in
    rank_put args.shape _ _ _ _ _ _ args.products.now args.rows.now _ _ _ _ _ put-rank-head.ensures put-field.ensures
    put-bytes.ensures c.put_lists.ensures
