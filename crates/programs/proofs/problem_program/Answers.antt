-- `programs::problem_program` meets its contract. Assumes nothing.
use borrow.Author.Rules.{rules}
use Rattle.problem_files.proofs.laws.of_inputs.Input.{posed_few}
use Rattle.programs.specs.laws.Steps.{program_refused, posed_pricing, program_said}
use Rattle.programs.proofs.problem_program.Goals as goal

pub reply-requires : goal.reply-requires
reply-requires c =
    let pre = c.requires in
    let pose-input = c.pose_input in
    let handed = c.handed-handed in
    let first-words = c.first_words in
    let first-words2 = c.first_words-in-Problem in
    let a = c.args in
    let O = pose-input.ensures in
    let h = c.in-Problem.is in
    let i = first-words.ensures in
    let j = first-words2.ensures in (
      pre,
      posed_few a.file.now _ _ _ O h i j,
      posed_pricing a.purpose a.file.now _ _ _ O h i j handed.ensures c.first_words-in-Problem-2.ensures,
    )

pub returns-in-Refused : goal.returns-in-Refused
returns-in-Refused c =
    let pose-input = c.pose_input in
    let refused-page = c.refused_page in
    let a = c.args in
    program_refused a.purpose a.file.now _ _ _ pose-input.ensures _ _ c.in-Refused.is refused-page.ensures

pub returns-in-Problem : goal.returns-in-Problem
returns-in-Problem c =
    let pose-input = c.pose_input in
    let handed = c.handed-handed in
    let first-words = c.first_words in
    let first-words2 = c.first_words-in-Problem in
    let first-words3 = c.first_words-in-Problem-2 in
    let reply = c.reply in
    let a = c.args in
    program_said a.purpose a.file.now _ _ _ pose-input.ensures c.in-Problem.is first-words.ensures first-words2.ensures
    handed.ensures first-words3.ensures _ _ reply.ensures
