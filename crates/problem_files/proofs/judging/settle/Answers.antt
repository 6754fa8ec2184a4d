-- `problem_files::judging::settle` meets its contract. Assumes nothing.
use mathlib.Core.Path.{sym, ◌∙◌}
use Rattle.problem_files.proofs.laws.Steps.{said_refused, said_8, said_9, said_is}
use Rattle.problem_files.proofs.judging.settle.Goals as goal

pub returns-then-beyond : goal.returns-then-beyond
returns-then-beyond c =
    let args = c.args in
    said_8 args.purpose args.first args.second args.third args.t.now c.in-Problem.is c.first_words.ensures
    (sym c.beyond.ensures ∙ c.if-beyond.true)

pub returns-then-too_short : goal.returns-then-too_short
returns-then-too_short c =
    let first-words = c.first_words in
    let args = c.args in
    said_9 args.purpose args.first args.second args.third args.t.now c.in-Problem.is first-words.ensures
    (sym c.beyond.ensures ∙ c.if-beyond.false) (sym c.too_short.ensures ∙ c.if-too_short.true)

pub returns-in-Refused : goal.returns-in-Refused
returns-in-Refused c =
    let args = c.args in
    said_refused args.purpose args.first args.second args.third args.t.now c.in-Refused.is

pub returns-else-too_short : goal.returns-else-too_short
returns-else-too_short c =
    let first-words = c.first_words in
    let args = c.args in
    said_is args.purpose args.first args.second args.third args.t.now c.in-Problem.is first-words.ensures
    (sym c.beyond.ensures ∙ c.if-beyond.false) (sym c.too_short.ensures ∙ c.if-too_short.false)
