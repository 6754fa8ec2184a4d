-- `programs::print_program` meets its contract. Assumes nothing.
use mathlib.Core.Path.{sym, ◌∙◌}
use borrow.Author.Rules.{rules}
use lib.Seq.{length-take-le}
use Rattle.words.specs.laws.Buffers.{at_most}
use Rattle.printing.specs.pages.laws.Printed.{printed_whole}
use Rattle.programs.proofs.print_program.Goals as goal

pub slice_bounds-print_page-end : goal.slice_bounds-print_page-end
slice_bounds-print_page-end c =
    let p = c.problem_program-n in
    sym (length-take-le _ p.new.page (at_most (p.auto.page ∙ sym c.reply_page-whole.ensures) p.ensures.1))

pub returns : goal.returns
returns c =
    let p = c.print_page in
    let q = c.problem_program-n in
    printed_whole _ _ p.result _ _ _ _ q.ensures.0 q.ensures.1 p.ensures
