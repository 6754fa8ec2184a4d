-- The input of a program that answers a problem.
--   posed_input s        == the problem of the input s, or its refusal, 1 to 7
--   input_file a s u v w == the same, where a is asked and buffers of u, v and w words are lent for a list's forms and costs: refusals 1 to 9
--   input_of a s         == that of a program, which lends 4,096 words for each
-- Document 01, refusal 1: "in a program, also an input of more than 65,536 bytes". Assumes nothing.
use Rattle.std.specs.Prelude.{ℕ, List, length, ltb}
use Rattle.kinds.specs.Refusal.{Answer, refuse, follow}
use Rattle.problem_files.specs.posing.Posing.{ProblemFile, posed_file}
use Rattle.problem_files.specs.judging.Judged.{settled}
use Rattle.problem_files.specs.declared.judging.Purpose.{Purpose}
use Rattle.text.specs.Limits.{program_words, most_bytes}

unfoldable pub posed_input : List ℕ → Answer ProblemFile
posed_input s = refuse 1 (ltb most_bytes (length s)) (posed_file s)

unfoldable pub input_file : Purpose → List ℕ → (u v w : ℕ) → Answer ProblemFile
input_file a s u v w = follow (posed_input s) (settled a u v w)

abbrev pub input_of : Purpose → List ℕ → Answer ProblemFile
input_of a s = input_file a s program_words program_words program_words
