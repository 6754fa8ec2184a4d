-- `problem_files::inputs::pose_input` meets its contract. Assumes nothing.
use Rattle.problem_files.proofs.laws.of_inputs.Input.{posed_long, posed_read}
use Rattle.problem_files.proofs.inputs.pose_input.Goals as goal

pub returns-then-file-gt-FILE_BYTES : goal.returns-then-file-gt-FILE_BYTES
returns-then-file-gt-FILE_BYTES c =
    let args = c.args in
    posed_long args.file.now args.cs.now args.g.now args.t.now c.if-file-gt-FILE_BYTES.true

pub shape_of-cs : goal.shape_of-cs
shape_of-cs c = c.pose_file.auto.cs

pub shape_of-g : goal.shape_of-g
shape_of-g c = c.pose_file.auto.g

pub shape_of-t : goal.shape_of-t
shape_of-t c = c.pose_file.auto.t

pub returns : goal.returns
returns c =
    let args = c.args in
    let if1 = c.if-file-gt-FILE_BYTES in
    let pose-file = c.pose_file in
    posed_read args.file.now _ _ _ _ _ pose-file.result if1.false pose-file.ensures
