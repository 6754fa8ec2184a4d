-- `problem_files::judging::beyond` meets its contract. Assumes nothing.
use Rattle.bases.specs.Basis.{based_dim}
use Rattle.problem_files.proofs.laws.of_judging.Judging.{beyond_catalogue, beyond_rank}
use Rattle.problem_files.proofs.judging.beyond.Goals as goal

pub returns-in-Catalogue : goal.returns-in-Catalogue
returns-in-Catalogue c =
    let args = c.args in
    beyond_catalogue args.purpose args.k _ args.targets.now c.in-Catalogue.is
    (based_dim args.targets.now c.basis_of.result c.basis_of.ensures)

pub returns-in-Rank : goal.returns-in-Rank
returns-in-Rank c = beyond_rank c.args.purpose c.args.k c.args.targets.now c.in-Rank.is
