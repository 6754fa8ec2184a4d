-- `printing::refusals::refused_page` meets its contract. Assumes nothing.
use Rattle.printing.specs.refusals.laws.Page.{refused_fits}
use Rattle.printing.proofs.refusals.refused_page.Goals as goal

pub returns : goal.returns
returns c =
    let args = c.args in
    let pre = c.requires in
    refused_fits args.n _ args.page.now _ pre c.refused_text.ensures
