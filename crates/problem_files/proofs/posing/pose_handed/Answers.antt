-- `problem_files::posing::pose_handed` meets its contract. Assumes nothing.
use mathlib.Core.Path.{refl}
use Rattle.problem_files.proofs.laws.of_posing.Steps.{handed_refused, handed_made}
use Rattle.problem_files.proofs.posing.pose_handed.Goals as goal

pub returns-in-Refused : goal.returns-in-Refused
returns-in-Refused c =
    let args = c.args in
    let pose-shape = c.pose_shape in
    handed_refused args.shape args.k args.gs.now args.ts.now refl pose-shape.ensures c.in-Refused.is

pub returns-in-Are : goal.returns-in-Are
returns-in-Are c =
    let args = c.args in
    let pose-shape = c.pose_shape in
    handed_made args.shape args.k args.gs.now args.ts.now refl pose-shape.ensures c.in-Are.is
