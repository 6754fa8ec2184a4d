-- `sieve::marked_numbers::next_marked` meets its contract: no number so far is marked. Assumes nothing.
use Rattle.sieve.specs.marked_numbers.laws.Marks.{Unmarked, next_start, next_more, next_found, next_none}
use Rattle.sieve.proofs.marked_numbers.next_marked.Goals as goal

pub loop-j-init : goal.loop-j-init
loop-j-init c = let a = c.args in next_start Unmarked a.marks.now a.from a.n c.requires.0

pub returns-then-marks-j-ne0 : goal.returns-then-marks-j-ne0
returns-then-marks-j-ne0 c =
    let a = c.args in
    let l = c.loop-j in
    next_found a.marks.now a.from a.n l.j l.invariant c.if-marks-j-ne0.true

pub loop-j-preserved : goal.loop-j-preserved
loop-j-preserved c =
    let a = c.args in
    let l = c.loop-j in
    next_more Unmarked a.marks.now a.from a.n l.j l.invariant c.loop-j-test.true c.if-marks-j-ne0.false

pub returns : goal.returns
returns c =
    let a = c.args in
    let l = c.loop-j in
    next_none a.marks.now a.from a.n l.j l.invariant c.loop-j-test.false
