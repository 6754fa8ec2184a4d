-- The answers of the code on a file's problem.
--   seen_posing gs ts cs g t x == what the answer x says, the forms handed in standing at the start of gs and ts, the costs at that of cs, the problem at
--     those of g and t
--   Handed shape k gs ts g t x == x says what the forms gs and ts pose, likewise
--   Poses o gs ts cs g t x    == x says what o is; its forms fit 4,095 and 64 words, and its problem has 1 to 64 targets
--   PosesIn o cs g t x        == the same, where the forms handed in stand anywhere. Of the costs more is known: posed_priced (inputs, laws/Input)
-- Assumes nothing.
use Rattle.std.specs.Prelude.{ℕ, ◌≤◌, ◌≡◌, List, [], take}
use Rattle.kinds.specs.Limits.{most_generators, most_targets}
use Rattle.kinds.specs.Refusal.{Answer, refused, accepted}
use Rattle.kinds.specs.declared.Shape.{Shape}
use Rattle.problems.specs.Problem.{problem, shaped}
use Rattle.problems.specs.Replies.{Room}
use Rattle.kinds.specs.Kinds.{handed}
use Rattle.problem_files.specs.handed_forms.ProblemLines.{handed_in}
use Rattle.problem_files.specs.posing.Posing.{ProblemFile, problem_of}
use Rattle.problem_files.specs.declared.posing.PosedRead.{PosedRead}
use Rattle.problem_files.specs.declared.posing.PosedRead.TheVariants as posed

abbrev pub seen_posing : (gs ts cs g t : List ℕ) → PosedRead → Answer ProblemFile
seen_posing gs ts cs g t (posed.Refused e) = refused e
seen_posing gs ts cs g t (posed.Problem shape k c u) =
    let h = handed_in shape gs ts cs in accepted (problem_of shape k h.0 h.1 h.2 (problem (take c g) (take u t)))

-- of the forms handed in alone
abbrev pub HandedFits : Shape → ℕ → (gs ts g t : List ℕ) → PosedRead → Type 0
HandedFits shape k gs ts g t (posed.Refused e) = shaped shape gs ts [] ≡ refused e
HandedFits shape k gs ts g t (posed.Problem sh l c u) = (sh ≡ shape) × (l ≡ k) × (shaped shape gs ts [] ≡ accepted (problem (take c g) (take u t))) × Room c u

pub record Handed (shape : Shape) (k : ℕ) (gs ts g t : List ℕ) (x : PosedRead) : Type 0 where
  pub by : HandedFits shape k gs ts g t x

pub record PosingRoom (q r c u : ℕ) : Type 0 where
  pub few_generators : q ≤ most_generators
  pub few_targets : r ≤ most_targets
  pub room : Room c u

abbrev pub PosingFits : PosedRead → Type 0
PosingFits (posed.Refused e) = Unit {0}
PosingFits (posed.Problem shape k c u) = PosingRoom (handed shape.kind shape.q) (handed shape.kind shape.r) c u

pub record Poses (o : Answer ProblemFile) (gs ts cs g t : List ℕ) (x : PosedRead) : Type 0 where
  pub answer : o ≡ seen_posing gs ts cs g t x
  pub fits : PosingFits x

pub record PosesIn (o : Answer ProblemFile) (cs g t : List ℕ) (x : PosedRead) : Type 0 where
  pub first : List ℕ
  pub second : List ℕ
  pub poses : Poses o first second cs g t x
