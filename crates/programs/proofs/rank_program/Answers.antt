-- `programs::rank_program` meets its contract. Assumes nothing.
use mathlib.Core.Path.{refl}
use borrow.Author.Rules.{rules}
use Rattle.problem_files.specs.declared.judging.Purpose.TheVariants as purpose
use Rattle.programs.specs.laws.Steps.{for_purpose}
use Rattle.programs.proofs.rank_program.Goals as goal

pub shape_of-page : goal.shape_of-page
shape_of-page c = c.print_program.auto.page

pub returns : goal.returns
returns c = for_purpose _ purpose.Rank _ _ c.print_program.result _ c.print_program.ensures refl
