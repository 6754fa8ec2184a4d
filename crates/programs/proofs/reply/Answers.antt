-- `programs::reply` meets its contract. Assumes nothing.
use mathlib.Core.Path.{ap, sym, ◌∙◌}
use borrow.Author.Rules.{rules}
use Rattle.problems.specs.Problem.{problem}
use Rattle.problem_files.specs.declared.judging.Purpose.{Purpose}
use Rattle.programs.specs.Programs.{reply_on}
use Rattle.programs.proofs.reply.Goals as goal

pub returns-in-Catalogue : goal.returns-in-Catalogue
returns-in-Catalogue c =
    let args = c.args in
    let r = c.catalogue_reply.ensures in
    let asked = c.in-Catalogue.is in
    (r.0 ∙ ap (λ (a : Purpose). reply_on a args.shape args.k (problem args.gens.now args.targets.now) args.costs.now) (sym asked), r.1)

pub returns-in-Rank : goal.returns-in-Rank
returns-in-Rank c =
    let args = c.args in
    let r = c.priced_reply.ensures in
    let asked = c.in-Rank.is in
    (r.0 ∙ ap (λ (a : Purpose). reply_on a args.shape args.k (problem args.gens.now args.targets.now) args.costs.now) (sym asked), r.1)
