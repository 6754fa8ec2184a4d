-- `problem_files::inputs::read_input` meets its contract. Assumes nothing.
use lib.ListN.{length}
use Rattle.problem_files.specs.inputs.Inputs.{input_file}
use Rattle.problem_files.proofs.laws.of_inputs.Input.{input_long, input_read}
use Rattle.problem_files.proofs.laws.Numbers.{problem_told}
use Rattle.problem_files.specs.declared.judging.ProblemRead.TheVariants as read
use Rattle.problem_files.proofs.inputs.read_input.Goals as goal

pub returns-then-file-gt-FILE_BYTES : goal.returns-then-file-gt-FILE_BYTES
returns-then-file-gt-FILE_BYTES c =
    let args = c.args in
    let if1 = c.if-file-gt-FILE_BYTES in
    let clear = c.clear in
    let clear2 = c.clear-then-file-gt-FILE_BYTES in
    let gs = args.gs.now in
    let ts = args.ts.now in
    let cs = args.cs.now in
    problem_told (input_file args.purpose args.file.now (length gs) (length ts) (length cs)) (read.Refused 1)
    (input_long args.purpose args.file.now gs ts cs _ _ _ if1.true clear.ensures clear2.ensures c.clear-then-file-gt-FILE_BYTES-2.ensures)

pub returns : goal.returns
returns c =
    let args = c.args in
    let if1 = c.if-file-gt-FILE_BYTES in
    let read-problem = c.read_problem in
    let P = read-problem.ensures in
    let gs = args.gs.now in
    let ts = args.ts.now in
    let cs = args.cs.now in
    problem_told (input_file args.purpose args.file.now (length gs) (length ts) (length cs)) read-problem.result
    (input_read args.purpose args.file.now gs ts cs _ _ _ _ if1.false (P.0, P.1, P.2, P.3))
