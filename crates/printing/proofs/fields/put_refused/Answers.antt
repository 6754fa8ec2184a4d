-- `printing::fields::put_refused` meets its contract. Assumes nothing.
use native.Mathlib.Omega.{arith}
use Rattle.printing.specs.fields.laws.Pieces.{number_short, refused_put}
use Rattle.printing.proofs.fields.put_refused.Goals as goal

pub put_bytes-requires : goal.put_bytes-requires
put_bytes-requires c =
    let put-bytes = c.put_bytes-a in
    let put-number = c.put_number-b in
    let args = c.args in
    omega (arith, put-bytes.ensures.0, put-number.ensures.0, number_short args.n)

pub returns : goal.returns
returns c =
    let args = c.args in
    let put-bytes = c.put_bytes-a in
    let put-number = c.put_number-b in
    let put-bytes2 = c.put_bytes in
    refused_put args.n _ _ _ _ _ _ _ put-bytes.ensures put-number.ensures put-bytes2.ensures
