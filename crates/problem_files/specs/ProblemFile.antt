-- What reading a problem's file gives: the first refusal of the list that applies, or the problem.
--   problem_file a s u v w == 1 to 9 of the text s, where a is asked and buffers of u, v and w words are lent: `posed_file` (posing), then `settled` (judging)
-- Assumes nothing.
use Rattle.std.specs.Prelude.{ℕ, List}
use Rattle.kinds.specs.Refusal.{Answer, follow}
use Rattle.problem_files.specs.posing.Posing.{ProblemFile, posed_file}
use Rattle.problem_files.specs.judging.Judged.{settled}
use Rattle.problem_files.specs.declared.judging.Purpose.{Purpose}

unfoldable pub problem_file : Purpose → List ℕ → (u v w : ℕ) → Answer ProblemFile
problem_file a s u v w = follow (posed_file s) (settled a u v w)
