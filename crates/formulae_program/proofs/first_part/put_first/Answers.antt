-- `formulae_program::first_part::put_first` meets its contract. Assumes nothing.
use borrow.Author.Rules.{rules}
use Rattle.formulae_program.specs.first_part.laws.Start.{first_refused, first_listed}
use Rattle.formulae_program.proofs.first_part.put_first.Goals as goal

pub returns-in-Refused : goal.returns-in-Refused
returns-in-Refused c =
    let args = c.args in
    first_refused args.said _ _ _ c.in-Refused.is c.refused_page.ensures

pub returns-in-Listed : goal.returns-in-Listed
returns-in-Listed c =
    let args = c.args in
    let pre = c.requires in
    first_listed args.said c.in-Listed.x args.out.now _ _ c.in-Listed.is (pre) c.put_head.ensures
