-- `formulae_program::first_part::first_page` meets its contract. Assumes nothing.
use mathlib.Core.Path.{sym}
use native.Mathlib.Omega.{arith}
use borrow.Author.Rules.{rules}
use lib.Seq.{length-take-le}
use Rattle.printing.specs.refusals.Pages.{part_page}
use Rattle.printing.specs.pages.laws.Printed.{printed_whole}
use Rattle.formulae_program.proofs.first_part.first_page.Goals as goal

pub slice_bounds-print_page-end : goal.slice_bounds-print_page-end
slice_bounds-print_page-end c =
    let p = c.put_first-n in
    sym (length-take-le _ p.new.out (omega (arith, p.auto.out, p.ensures.1)))

pub returns : goal.returns
returns c =
    let p = c.put_first-n in
    let q = c.print_page in
    printed_whole _ _ q.result _ _ p.result part_page p.ensures.0 (omega (arith, p.ensures.1)) q.ensures
