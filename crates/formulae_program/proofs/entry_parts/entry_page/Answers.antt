-- `formulae_program::entry_parts::entry_page` meets its contract. Assumes nothing.
use mathlib.Core.Path.{sym, ◌∙◌}
use borrow.Author.Rules.{rules}
use lib.Seq.{length-take-le}
use Rattle.words.specs.laws.Buffers.{at_most}
use Rattle.printing.specs.pages.laws.Printed.{printed_whole}
use Rattle.formulae_program.specs.entry_parts.laws.Parts.{part_told}
use Rattle.formulae_program.proofs.entry_parts.entry_page.Goals as goal

pub slice_bounds-print_page-end : goal.slice_bounds-print_page-end
slice_bounds-print_page-end c =
    let page = c.part_page-whole in
    let p = c.put_entry-n in
    let whole = p.new.page in
    sym (length-take-le _ whole (at_most (p.auto.page ∙ sym page.ensures) p.ensures.1))

pub returns : goal.returns
returns c =
    let args = c.args in
    let rows = c.rows-rows in
    let first-words = c.first_words in
    let first-words2 = c.first_words-2 in
    let p = c.put_entry-n in
    let q = c.print_page in
    let told = part_told args.plan args.gs.now args.ts.now args.listing.now args.i _ _ _ _ p.ensures.0 first-words.ensures
    first-words2.ensures rows.ensures in
    printed_whole _ _ q.result _ _ _ _ told p.ensures.1 q.ensures
