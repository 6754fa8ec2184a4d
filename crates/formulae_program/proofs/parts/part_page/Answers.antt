-- `formulae_program::parts::part_page` meets its contract. Assumes nothing.
use borrow.Author.Rules.{rules}
use Rattle.formulae_program.specs.parts.laws.Parts.{part_first, part_none, part_entry, printed_as, nothing_fits}
use Rattle.formulae_program.proofs.parts.part_page.Goals as goal

pub returns-then-i-eq0 : goal.returns-then-i-eq0
returns-then-i-eq0 c =
    let if1 = c.if-i-eq0 in
    let args = c.args in
    printed_as args.page.now (part_first args.said args.gs.now args.ts.now args.listing.now args.i if1.true)
    c.first_page.result c.first_page.ensures

pub returns-in-Refused : goal.returns-in-Refused
returns-in-Refused c =
    let if1 = c.if-i-eq0 in
    let args = c.args in
    let p = c.print_page.ensures in
    printed_as args.page.now (part_none args.said args.gs.now args.ts.now args.listing.now args.i if1.false c.in-Refused.is)
    c.print_page.result
    (p.0, p.1, nothing_fits)

pub returns-in-Listed : goal.returns-in-Listed
returns-in-Listed c =
    let if1 = c.if-i-eq0 in
    let args = c.args in
    printed_as args.page.now
    (part_entry args.said args.gs.now args.ts.now args.listing.now args.i if1.false c.in-Listed.is)
    c.entry_page.result
    c.entry_page.ensures
