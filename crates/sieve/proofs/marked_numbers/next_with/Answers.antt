-- `sieve::marked_numbers::next_with` meets its contract: no number so far has the mark. Assumes nothing.
use native.Mathlib.Omega.{arith}
use Rattle.sieve.specs.marked_numbers.laws.Marks.{Without, next_start, next_more, with_found, with_none}
use Rattle.sieve.proofs.marked_numbers.next_with.Goals as goal

pub loop-i-init : goal.loop-i-init
loop-i-init c = let a = c.args in next_start (Without a.mark) a.marks.now a.from a.n c.requires.0

pub overflow_cast-marks : goal.overflow_cast-marks
overflow_cast-marks c = omega (arith, c.shared_slice_known-1.given c.loop-i.i)

pub returns-then-marks-i : goal.returns-then-marks-i
returns-then-marks-i c =
    let a = c.args in
    let l = c.loop-i in
    with_found a.marks.now a.mark a.from a.n l.i l.invariant c.if-marks-i.true

pub loop-i-preserved : goal.loop-i-preserved
loop-i-preserved c =
    let a = c.args in
    let l = c.loop-i in
    next_more (Without a.mark) a.marks.now a.from a.n l.i l.invariant c.loop-i-test.true c.if-marks-i.false

pub returns : goal.returns
returns c =
    let a = c.args in
    let l = c.loop-i in
    with_none a.marks.now a.mark a.from a.n l.i l.invariant c.loop-i-test.false
