-- `formulae_program::first_part::start` meets its contract. Assumes nothing.
use mathlib.Core.Path.{sym, ◌∙◌}
use borrow.Author.Rules.{rules}
use Rattle.problem_files.proofs.laws.of_inputs.Input.{posed_few}
use Rattle.formulae_program.specs.first_part.laws.Start.{start_short, start_refused, start_listed, short_not}
use Rattle.formulae_program.proofs.first_part.start.Goals as goal

pub returns-then-too_short : goal.returns-then-too_short
returns-then-too_short c =
    let args = c.args in
    let too_short = c.too_short in
    let if1 = c.if-too_short in
    let clear = c.clear in
    start_short args.file.now args.gs.now args.ts.now args.listing.now _ _ (sym too_short.ensures ∙ if1.true) clear.ensures
    c.clear-then-too_short.ensures

pub plan_problem-requires : goal.plan_problem-requires
plan_problem-requires c =
    let args = c.args in
    let too_short = c.too_short in
    let if1 = c.if-too_short in
    let pose-input = c.pose_input in
    let first-words = c.first_words in
    let first-words2 = c.first_words-in-Problem in
    let r = short_not _ _ (sym too_short.ensures ∙ if1.false) in (
      posed_few args.file.now _ _ _ pose-input.ensures c.in-Problem.is first-words.ensures first-words2.ensures,
      r.0,
      r.1,
    )

pub returns-in-Refused : goal.returns-in-Refused
returns-in-Refused c =
    let args = c.args in
    let too_short = c.too_short in
    let if1 = c.if-too_short in
    let pose-input = c.pose_input in
    let clear3 = c.clear-in-Refused in
    start_refused args.file.now args.gs.now args.ts.now args.listing.now (sym too_short.ensures ∙ if1.false) pose-input.ensures _ _
    c.in-Refused.is clear3.ensures c.clear-in-Refused-2.ensures

pub returns-in-Problem : goal.returns-in-Problem
returns-in-Problem c =
    let args = c.args in
    let too_short = c.too_short in
    let if1 = c.if-too_short in
    let pose-input = c.pose_input in
    let first-words = c.first_words in
    let first-words2 = c.first_words-in-Problem in
    let plan-problem = c.plan_problem in
    start_listed args.file.now args.gs.now args.ts.now args.listing.now (sym too_short.ensures ∙ if1.false) pose-input.ensures
    c.in-Problem.is first-words.ensures first-words2.ensures plan-problem.result _ _ _ plan-problem.ensures
