-- `problem_files::read_problem` meets its contract. Assumes nothing.
use mathlib.Core.Path.{ap}
use native.Mathlib.Omega.{arith}
use lib.ListN.{length, length-take}
use Rattle.problem_files.specs.ProblemFile.{problem_file}
use Rattle.problem_files.proofs.laws.Numbers.{problem_told}
use Rattle.problem_files.specs.declared.judging.ProblemRead.TheVariants as read
use Rattle.problem_files.proofs.laws.Accepted.{held, final_refused, final_problem}
use Rattle.problem_files.proofs.read_problem.Goals as goal

pub copy-requires : goal.copy-requires
copy-requires c =
    let args = c.args in
    let pose-file = c.pose_file-said in
    let settle = c.settle in
    let handed = c.handed-c in
    let H = held args.purpose args.file.now _ _ _ _ _ _ _ _ pose-file.ensures settle.ensures c.in-Problem.is in
    omega (arith, ap length c.first_words.ensures, length-take handed.result pose-file.new.gs, handed.ensures, H.for_generators)

pub copy-requires-in-Problem : goal.copy-requires-in-Problem
copy-requires-in-Problem c =
    let args = c.args in
    let pose-file = c.pose_file-said in
    let settle = c.settle in
    let handed2 = c.handed-d in
    let H = held args.purpose args.file.now _ _ _ _ _ _ _ _ pose-file.ensures settle.ensures c.in-Problem.is in
    omega (arith, ap length c.first_words-in-Problem.ensures, length-take handed2.result pose-file.new.ts, handed2.ensures, H.for_targets)

pub copy-requires-in-Problem-2 : goal.copy-requires-in-Problem-2
copy-requires-in-Problem-2 c =
    let args = c.args in
    let pose-file = c.pose_file-said in
    let settle = c.settle in
    let handed = c.handed-c in
    let H = held args.purpose args.file.now _ _ _ _ _ _ _ _ pose-file.ensures settle.ensures c.in-Problem.is in
    omega (arith, ap length c.first_words-in-Problem-2.ensures, length-take handed.result pose-file.new.cs, handed.ensures, H.for_costs)

pub returns-in-Refused : goal.returns-in-Refused
returns-in-Refused c =
    let args = c.args in
    let pose-file = c.pose_file-said in
    let settle = c.settle in
    let clear = c.clear in
    let clear2 = c.clear-in-Refused in
    let gs = args.gs.now in
    let ts = args.ts.now in
    let cs = args.cs.now in
    problem_told (problem_file args.purpose args.file.now (length gs) (length ts) (length cs)) (read.Refused c.in-Refused.e)
    (final_refused args.purpose args.file.now _ _ _ _ _ _ _ _ pose-file.ensures settle.ensures gs ts cs c.in-Refused.is clear.ensures
    clear2.ensures c.clear-in-Refused-2.ensures)

pub returns-in-Problem : goal.returns-in-Problem
returns-in-Problem c =
    let args = c.args in
    let pose-file = c.pose_file-said in
    let settle = c.settle in
    let handed = c.handed-c in
    let handed2 = c.handed-d in
    let first-words = c.first_words in
    let first-words2 = c.first_words-in-Problem in
    let first-words3 = c.first_words-in-Problem-2 in
    let copy = c.copy in
    let copy2 = c.copy-in-Problem in
    let gs = args.gs.now in
    let ts = args.ts.now in
    let cs = args.cs.now in
    problem_told (problem_file args.purpose args.file.now (length gs) (length ts) (length cs)) (read.Problem _ _)
    (final_problem args.purpose args.file.now _ _ _ _ _ _ _ _ pose-file.ensures settle.ensures c.in-Problem.is gs ts cs
    handed.ensures handed2.ensures first-words.ensures first-words2.ensures first-words3.ensures copy.ensures copy2.ensures
    c.copy-in-Problem-2.ensures)
