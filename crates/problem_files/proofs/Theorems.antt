-- What the numbers of the reply to a problem's file tell.
--   problem_numbers_told, input_numbers_told   two replies of the call, to whatever it is handed, are the same if their numbers are
-- Assumes nothing.
use Rattle.std.specs.Prelude.{◌≡◌, List, ℕ}
use Rattle.problem_files.specs.ProblemFile.{problem_file}
use Rattle.problem_files.specs.inputs.Inputs.{input_file}
use Rattle.problem_files.specs.Lent.{problem_reply, problem_read_numbers}
use Rattle.problem_files.proofs.laws.Numbers.{problem_differ, problem_numbered, input_numbered}
use Rattle.problem_files.specs.declared.judging.Purpose.{Purpose}
use Rattle.problem_files.specs.declared.judging.ProblemRead.{ProblemRead}

pub problem_numbers_told : (a a' : Purpose) (s s' : List ℕ) (u v w u' v' w' : ℕ) (x y : ProblemRead)
    → x ≡ problem_reply (problem_file a s u v w) → y ≡ problem_reply (problem_file a' s' u' v' w') → problem_read_numbers x ≡ problem_read_numbers y → x ≡ y
problem_numbers_told a a' s s' u v w u' v' w' x y e f =
    problem_differ (problem_file a s u v w) (problem_file a' s' u' v' w') x y e f (problem_numbered a s u v w) (problem_numbered a' s' u' v' w')

pub input_numbers_told : (a a' : Purpose) (s s' : List ℕ) (u v w u' v' w' : ℕ) (x y : ProblemRead)
    → x ≡ problem_reply (input_file a s u v w) → y ≡ problem_reply (input_file a' s' u' v' w') → problem_read_numbers x ≡ problem_read_numbers y → x ≡ y
input_numbers_told a a' s s' u v w u' v' w' x y e f =
    problem_differ (input_file a s u v w) (input_file a' s' u' v' w') x y e f (input_numbered a s u v w) (input_numbered a' s' u' v' w')
