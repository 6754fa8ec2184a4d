-- `records::lookup::words_behind` meets its contract. Assumes nothing.
use native.Mathlib.Omega.{arith}
use borrow.Author.Rules.{part_to_end}
use Rattle.records.specs.lookup.laws.Lookup.{drop_none}
use Rattle.records.proofs.lookup.words_behind.Goals as goal

pub returns-then-n-a : goal.returns-then-n-a
returns-then-n-a c =
    let args = c.args in
    drop_none args.a.now args.n (omega (arith, c.if-n-a.true))

pub returns : goal.returns
returns c =
    let args = c.args in
    part_to_end args.a.now args.n
