-- `problem_files::posing::pose_file` meets its contract. Assumes nothing.
use Rattle.kinds.specs.Sizes.{shape_of}
use Rattle.problem_files.proofs.laws.of_handed_forms.Lines.{body_targets}
use Rattle.problem_files.proofs.laws.of_posing.Steps.{file_1, file_2, file_3, file_read}
use Rattle.problem_files.proofs.posing.pose_file.Goals as goal

pub returns-in_default : goal.returns-in_default
returns-in_default c = record { answer = file_1 _ c.in_default.ensures.0; fits = tt }

pub returns-in_default-kind : goal.returns-in_default-kind
returns-in_default-kind c = record { answer = file_2 _ _ _ c.in-Some.ensures.0 c.in_default-kind.is; fits = tt }

pub returns-in_default-sizes_of : goal.returns-in_default-sizes_of
returns-in_default-sizes_of c =
    record { answer = file_3 _ _ _ c.in-Some.ensures.0 _ c.in-Some-kind.is c.in_default-sizes_of.ensures; fits = tt }

pub pose_lines-requires : goal.pose_lines-requires
pose_lines-requires c =
    let pre = c.requires in
    let head = c.in-Some.head in
    let few = body_targets (shape_of c.in-Some-kind.kind head.p head.q head.r) _ c.in-Some-sizes_of.ensures in
    (record { generators = pre.0; targets = pre.1; costs = pre.2; few = few }, pre.3, pre.4)

pub returns : goal.returns
returns c =
    file_read c.args.file.now _ _ _ _ _ c.in-Some.head.used _ _ _ _ _ _ c.in-Some.ensures.0 c.in-Some-kind.is
    c.in-Some-sizes_of.ensures c.pose_lines.ensures
