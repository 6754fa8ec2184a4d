-- `words::lists::repeats` meets its contract. Assumes nothing.
use native.Mathlib.Omega.{arith}
use mathlib.Core.Path.{refl, sym, ◌∙◌}
use Rattle.words.specs.lists.laws.Standing.{repeats_turn, repeats_end}
use Rattle.words.proofs.lists.repeats.Goals as goal

pub loop-i-init : goal.loop-i-init
loop-i-init c = refl

pub returns-then-stands_from : goal.returns-then-stands_from
returns-then-stands_from c = (let l = c.loop-i in
    repeats_turn c.args.xs.now l.i (omega arith) l.invariant (sym c.stands_from.ensures ∙ c.if-stands_from.true))

pub loop-i-preserved : goal.loop-i-preserved
loop-i-preserved c = (let l = c.loop-i in
    repeats_turn c.args.xs.now l.i (omega arith) l.invariant (sym c.stands_from.ensures ∙ c.if-stands_from.false))

pub returns : goal.returns
returns c = repeats_end c.args.xs.now c.loop-i.i (omega arith) c.loop-i.invariant
