-- `printing::pages::print_page` meets its contract. Assumes nothing.
use Rattle.printing.specs.pages.laws.Printed.{print_none, print_all}
use Rattle.printing.proofs.pages.print_page.Goals as goal

pub returns-then-page-s : goal.returns-then-page-s
returns-then-page-s c =
    let args = c.args in
    print_none args.s.now args.page.now c.if-page-s.true

pub returns : goal.returns
returns c =
    let args = c.args in
    print_all args.s.now args.page.now _ _ c.if-page-s.false c.put_bytes.ensures
