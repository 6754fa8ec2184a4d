-- The reply to a problem's file, and what the three lent buffers hold at exit.
--   problem_reply a              == the code's answer
--   problem_read_numbers x        == its numbers: the refusal's, the kind's, p, q, r and k; `problem_read_values`, the same of what is accepted
--   generators_of, targets_of, costs_of a d == the buffer d after it: all 0 where the reading is refused, else the forms or costs handed in from the start
--     and the rest as it was; a kind other than list hands in none, and d is as it was
--   Settled a u v w x t y       == the reply y to refusals 8 and 9, where x was said of the file and its targets stand at the start of t
-- Assumes nothing.
use Rattle.std.specs.Prelude.{ℕ, ◌≡◌, List, [], ◌∷◌}
use Rattle.kinds.specs.Kinds.{number_of}
use Rattle.kinds.specs.Refusal.{Answer, refused, accepted, follow}
use Rattle.kinds.specs.Numbers.{refusal_numbers, answer_numbers}
use Rattle.words.specs.Buffers.{filled, zeros}
use Rattle.problem_files.specs.posing.Posing.{ProblemFile}
use Rattle.problem_files.specs.posing.Views.{seen_posing}
use Rattle.problem_files.specs.judging.Judged.{settled}
use Rattle.problem_files.specs.declared.judging.Purpose.{Purpose}
use Rattle.problem_files.specs.declared.judging.ProblemRead.{ProblemRead}
use Rattle.problem_files.specs.declared.judging.ProblemRead.TheVariants as read
use Rattle.problem_files.specs.declared.posing.PosedRead.{PosedRead}

abbrev pub problem_reply : Answer ProblemFile → ProblemRead
problem_reply (refused e) = read.Refused e
problem_reply (accepted P) = read.Problem P.shape P.k

-- "A refusal is its number, every other number of the reply 0."
abbrev pub problem_read_numbers : ProblemRead → List ℕ
problem_read_numbers (read.Refused e) = refusal_numbers 5 e
problem_read_numbers (read.Problem shape k) = answer_numbers (number_of shape.kind ∷ shape.p ∷ shape.q ∷ shape.r ∷ k ∷ [])

abbrev pub problem_read_values : ProblemFile → List ℕ
problem_read_values P = number_of P.shape.kind ∷ P.shape.p ∷ P.shape.q ∷ P.shape.r ∷ P.k ∷ []

abbrev pub generators_of : Answer ProblemFile → List ℕ → List ℕ
generators_of (refused e) d = zeros d
generators_of (accepted P) d = filled P.generators d

abbrev pub targets_of : Answer ProblemFile → List ℕ → List ℕ
targets_of (refused e) d = zeros d
targets_of (accepted P) d = filled P.targets d

abbrev pub costs_of : Answer ProblemFile → List ℕ → List ℕ
costs_of (refused e) d = zeros d
costs_of (accepted P) d = filled P.costs d

pub record Settled (a : Purpose) (u v w : ℕ) (x : PosedRead) (t : List ℕ) (y : ProblemRead) : Type 0 where
  pub by : (gs ts cs g : List ℕ) → y ≡ problem_reply (follow (seen_posing gs ts cs g t x) (settled a u v w))
