-- `formula_files::read_whole` meets its contract. Assumes nothing.
use Rattle.std.proofs.Common.{◌∙◌}
use Rattle.formula_files.proofs.laws.FormulaFile.{file_1, file_rest, rest_2, rest_3, rest_under, under_at, left_refused, left_under}
use Rattle.formula_files.proofs.read_whole.Goals as goal

pub returns-in_default : goal.returns-in_default
returns-in_default c = left_refused _ _ _ _ _ _ _ _ (file_1 _ _ _ _ c.in_default.ensures.0)

pub returns-in_default-known_map : goal.returns-in_default-known_map
returns-in_default-known_map c =
    left_refused _ _ _ _ _ _ _ _
    (file_rest _ _ _ _ _ _ c.in-Some.ensures.0 ∙ rest_2 _ _ _ _ _ _ _ _ _ c.in_default-known_map.ensures)

pub returns-in_default-sizes_of : goal.returns-in_default-sizes_of
returns-in_default-sizes_of c =
    left_refused _ _ _ _ _ _ _ _
    (file_rest _ _ _ _ _ _ c.in-Some.ensures.0 ∙ rest_3 _ _ _ _ _ _ _ _ _ _ c.in-Some-known_map.ensures c.in_default-sizes_of.ensures)

pub returns-then-e-ne0 : goal.returns-then-e-ne0
returns-then-e-ne0 c =
    let lines = under_at _ _ _ _ c.args.s.now c.in-Some.head.used _ _ _ _ _ _ _ c.read_under-e.ensures in
    left_refused _ _ _ _ _ _ _ _
    (file_rest _ _ _ _ _ _ c.in-Some.ensures.0 ∙ rest_under _ _ _ _ _ _ _ _ _ _ c.in-Some-known_map.ensures _ _ _ c.in-Some-sizes_of.ensures
    ∙ lines.stopped _ c.if-e-ne0.true)

pub returns : goal.returns
returns c =
    let lines = under_at _ _ _ _ c.args.s.now c.in-Some.head.used _ _ _ _ _ _ _ c.read_under-e.ensures in
    left_under _ _ _ _ _ _ _ _ _
    (file_rest _ _ _ _ _ _ c.in-Some.ensures.0 ∙ rest_under _ _ _ _ _ _ _ _ _ _ c.in-Some-known_map.ensures _ _ _ c.in-Some-sizes_of.ensures)
    (lines.all _ c.if-e-ne0.false)
