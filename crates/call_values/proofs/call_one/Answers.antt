-- `call_values::call_one`: the part of the buffer has as many words as the call asks for. Assumes nothing.
use borrow.Author.Rules.{rules}
use native.Mathlib.Omega.{arith}
use mathlib.Core.Path.{sym}
use Prim.Native.Nat.{◌≤◌}
use lib.ListN.{length}
use lib.Seq.{length-take-le}
use Rattle.call_values.proofs.call_one.Goals as goal

pub slice_bounds-call_on-end : goal.slice_bounds-call_on-end
slice_bounds-call_on-end g c =
    let words = c.lent_words-buffer in
    let w = c.args.w in
    let fits : w ≤ length words.result = omega arith in
    sym (length-take-le w words.result fits)
