-- `problem_files::handed_forms::map_lines` meets its contract. Assumes nothing.
use mathlib.Core.Path.{ap, ◌∙◌}
use native.Mathlib.Omega.{arith}
use Rattle.problem_files.proofs.laws.of_handed_forms.Lines.{map_many, map_more, map_none}
use Rattle.problem_files.proofs.handed_forms.map_lines.Goals as goal

pub returns-in_default : goal.returns-in_default
returns-in_default c = map_many _ _ c.args.s.now (c.generator_count.ensures ∙ c.in_default.is)

pub returns-then-s-gt0 : goal.returns-then-s-gt0
returns-then-s-gt0 c =
    let args = c.args in
    let generator-count = c.generator_count in
    map_more _ _ args.s.now _ (generator-count.ensures ∙ c.in-Some.is) c.if-s-gt0.true

pub returns : goal.returns
returns c =
    let args = c.args in
    let generator-count = c.generator_count in
    map_none _ _ args.s.now _ (generator-count.ensures ∙ c.in-Some.is) (omega (arith, c.if-s-gt0))
