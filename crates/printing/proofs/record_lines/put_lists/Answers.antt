-- `printing::record_lines::put_lists` meets its contract. Assumes nothing.
use Rattle.printing.specs.record_lines.laws.Lines.{lists_put}
use Rattle.printing.proofs.record_lines.put_lists.Goals as goal

pub returns : goal.returns
returns c =
    let args = c.args in
    let put-inner = c.put_inner-a in
    let put_byte = c.put_byte in
    let put-inner2 = c.put_inner-b in
    lists_put args.xs.now args.ys.now args.at _ _ _ _ _ _ _ _ put-inner.ensures put_byte.ensures put-inner2.ensures
    c.put_bytes.ensures
