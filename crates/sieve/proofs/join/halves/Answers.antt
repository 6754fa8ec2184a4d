-- `sieve::join::halves` meets its contract: the numbers so far are marked. Assumes nothing.
use mathlib.Core.Path.{sym, ◌∙◌}
use Rattle.sieve.specs.join.laws.Join.{halving_start, halving_more, halving_end}
use Rattle.sieve.proofs.join.halves.Goals as goal

pub loop-i-init : goal.loop-i-init
loop-i-init c = let a = c.args in halving_start a.start a.n a.left a.gone.now a.w.now
    a.picks.now c.requires.0 c.requires.4

pub loop-i-preserved : goal.loop-i-preserved
loop-i-preserved c =
    let a = c.args in
    let l = c.loop-i in
    halving_more a.start a.n a.left a.gone.now a.w.now l.i l.picks l.invariant c.loop-i-test.true
    c.requires.1 c.half-least.result
    c.half-least.ensures
    c.beside.result c.beside.ensures

pub shape_of-picks : goal.shape_of-picks
shape_of-picks c = c.loop-i.invariant.size ∙ sym c.requires.4

pub returns : goal.returns
returns c =
    let a = c.args in
    let l = c.loop-i in
    halving_end a.start a.n a.left a.gone.now a.w.now l.i l.picks l.invariant c.loop-i-test.false
