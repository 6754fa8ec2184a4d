-- `formulae_text::lines::put_left` meets its contract. Assumes nothing.
use native.Mathlib.Omega.{arith}
use Rattle.printing.specs.fields.laws.Pieces.{number_short}
use Rattle.formulae_text.specs.lines.laws.Lines.{left_none, left_one}
use Rattle.formulae_text.proofs.lines.put_left.Goals as goal

pub returns-then-whole : goal.returns-then-whole
returns-then-whole c = left_none c.args.entry c.args.whole c.args.at _ c.if-whole.true

pub put_bytes-requires : goal.put_bytes-requires
put_bytes-requires c =
    let args = c.args in
    let pre = c.requires in
    let put-number = c.put_number-a in
    let p = pre in let e = put-number.ensures.0 in let s = number_short args.entry in omega arith

pub returns : goal.returns
returns c =
    let args = c.args in
    let if1 = c.if-whole in
    let put-number = c.put_number-a in
    left_one args.entry args.whole args.at _ _ _ _ _ if1.false put-number.ensures c.put_bytes.ensures
