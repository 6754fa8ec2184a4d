-- `formulae_program::first_part::plan_problem` meets its contract. Assumes nothing.
use borrow.Author.Rules.{rules}
use Rattle.problems.specs.Problem.{problem}
use Rattle.formulae_program.specs.first_part.laws.Start.{plan_refused, plan_listed}
use Rattle.formulae_program.proofs.first_part.plan_problem.Goals as goal

pub returns-in-Refused : goal.returns-in-Refused
returns-in-Refused c =
    let clear = c.clear in
    let args = c.args in
    plan_refused args.shape args.k (problem args.gens.now args.targets.now) args.gs.now args.ts.now args.listing.now _ _
    c.catalogue_of.ensures _ _ c.in-Refused.is clear.ensures c.clear-in-Refused.ensures

pub returns-in-Entries : goal.returns-in-Entries
returns-in-Entries c =
    let copy = c.copy in
    let args = c.args in
    plan_listed args.shape args.k (problem args.gens.now args.targets.now) args.gs.now args.ts.now args.listing.now _ _
    c.catalogue_of.ensures _ _ c.in-Entries.is copy.ensures c.copy-in-Entries.ensures
