-- `printing::fields::deliver` meets its contract. Assumes nothing.
use Rattle.printing.specs.fields.laws.Pieces.{deliver_none, deliver_all}
use Rattle.printing.proofs.fields.deliver.Goals as goal

pub returns-then-out-s : goal.returns-then-out-s
returns-then-out-s c =
    let args = c.args in
    deliver_none args.s.now args.out.now c.if-out-s.true

pub returns : goal.returns
returns c =
    let args = c.args in
    let if1 = c.if-out-s in
    let put-bytes = c.put_bytes in
    deliver_all args.s.now args.out.now _ _ if1.false put-bytes.ensures
