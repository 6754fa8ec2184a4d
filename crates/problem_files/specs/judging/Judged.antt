-- A file's problem, judged for what is asked of it: refusals 8 and 9.
--   beyond a k ts     == refusal 8: k exceeds ℓ + 6 in a Catalogue, or is not 0 in a Rank
--   short shape u v w == refusal 9: buffers of u, v and w words don't take the forms and costs handed in
--   settled a u v w F == the first of them that applies, or the problem
-- Document 01, "Refused, in this order":
--   8. "k exceeds ℓ + 6 in a Catalogue [..] or is not 0 in a Rank"
--   9. "A lent buffer that must take the whole of an answer is too short"
-- Assumes nothing.
use Rattle.std.specs.Prelude.{ℕ, ◌+◌, List, Bool, not, ◌||◌, ltb, eqb}
use Rattle.linear.specs.Basis.{dim}
use Rattle.linear.specs.Word.{word}
use Rattle.kinds.specs.declared.Shape.{Shape}
use Rattle.kinds.specs.Refusal.{Answer, accepted, refuse}
use Rattle.kinds.specs.Kinds.{handed}
use Rattle.problem_files.specs.posing.Posing.{ProblemFile}
use Rattle.problem_files.specs.declared.judging.Purpose.{Purpose}
use Rattle.problem_files.specs.declared.judging.Purpose.TheVariants as purpose

abbrev pub beyond : Purpose → ℕ → List ℕ → Bool
beyond purpose.Catalogue k ts = ltb (dim word ts + 6) k
beyond purpose.Rank k ts = not (eqb k 0)

abbrev pub short : Shape → (u v w : ℕ) → Bool
short shape u v w = ltb u (handed shape.kind shape.q) || (ltb v (handed shape.kind shape.r) || ltb w (handed shape.kind shape.q))

unfoldable pub settled : Purpose → (u v w : ℕ) → ProblemFile → Answer ProblemFile
settled a u v w F =
    refuse 8 (beyond a F.k F.problem.targets)
    (refuse 9 (short F.shape u v w)
    (accepted F))
