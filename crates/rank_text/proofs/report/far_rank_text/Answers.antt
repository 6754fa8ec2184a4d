-- `rank_text::report::far_rank_text` meets its contract. Assumes nothing.
use mathlib.Core.Bool.{true, false}
use Rattle.rank_text.specs.report.laws.Rank.{far_said}
use Rattle.rank_text.proofs.report.far_rank_text.Goals as goal

pub returns-then-above : goal.returns-then-above
returns-then-above c =
    let args = c.args in
    let put-rank-head = c.put_rank_head-a in
    let if1 = c.if-above in
    far_said args.shape args.k args.ell _ true _ _ _ _ _ if1.true put-rank-head.ensures
    c.put_bytes.ensures

pub returns : goal.returns
returns c =
    let args = c.args in
    let put-rank-head = c.put_rank_head-a in
    let if1 = c.if-above in
    far_said args.shape args.k args.ell _ false _ _ _ _ _ if1.false put-rank-head.ensures
    c.put_bytes-2.ensures
