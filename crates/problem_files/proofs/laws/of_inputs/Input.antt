-- How an input is read.
--   input_long, input_read   an input of too many bytes, and one that is read: the reply and the three buffers
--   posed_long, posed_read   the same where the problem is posed
--   posed_shaped             the forms that an input hands in pose its problem
--   posed_few                the problem that an input poses has few generators and targets
--   posed_priced             the costs that an input hands in: as many as its generators, of 16 bits each; none of a map
--   posed_enough             what a program reads of an input poses what the whole input does
--   input_inv                an accepted input poses its problem, and neither 8 nor 9 applies
-- Assumes nothing.
use Rattle.std.specs.Prelude.{ℕ, ◌<◌, ◌≤◌, ◌≡◌, refl, Bool, true, false, cond, List, [], length, take, ltb}
use Rattle.std.proofs.Common.{sym, ap, ap₂, ◌∙◌, lt-ltb, le-ltb}
use Rattle.std.proofs.Math.Path.{subst}
use Rattle.kinds.specs.Refusal.{Answer, refused, accepted, refuse, follow}
use Rattle.kinds.specs.laws.Refusal.{refuse_inv}
use Rattle.kinds.specs.declared.Shape.{Shape}
use Rattle.problems.specs.Problem.{problem, shaped}
use Rattle.problems.proofs.Theorems.{Few, shaped_few}
use Rattle.words.specs.Buffers.{zeros}
use Rattle.kinds.specs.Kinds.{handed}
use Rattle.problem_files.specs.handed_forms.ProblemLines.{handed_in, CostsFit}
use Rattle.problem_files.specs.posing.Posing.{ProblemFile, problem_of, posed_file}
use Rattle.problem_files.specs.posing.Views.{seen_posing, Poses, PosesIn}
use Rattle.problem_files.specs.judging.Judged.{settled}
use Rattle.problem_files.specs.ProblemFile.{problem_file}
use Rattle.problem_files.proofs.laws.Accepted.{file_poses, file_priced, Final, Judged, judged_inv}
use Rattle.problem_files.specs.declared.judging.Purpose.{Purpose}
use Rattle.problem_files.specs.declared.judging.ProblemRead.{ProblemRead}
use Rattle.problem_files.specs.declared.judging.ProblemRead.TheVariants as read
use Rattle.problem_files.specs.declared.posing.PosedRead.{PosedRead}
use Rattle.problem_files.specs.declared.posing.PosedRead.TheVariants as posed
use Rattle.problem_files.specs.inputs.Inputs.{posed_input, input_file}
use Rattle.text.specs.Limits.{most_bytes, input_room}
use Rattle.text.specs.laws.Enough.{read_enough}

input_as : (s : List ℕ) (b : Bool) → ltb most_bytes (length s) ≡ b → refuse 1 b (posed_file s) ≡ posed_input s
unfolding posed_input
input_as s b h = ap (λ (c : Bool). refuse 1 c (posed_file s)) (sym h)

pub input_long_is : (s : List ℕ) → most_bytes < length s → refused 1 ≡ posed_input s
input_long_is s h = input_as s true (lt-ltb most_bytes (length s) h)

pub input_short_is : (s : List ℕ) → length s ≤ most_bytes → posed_file s ≡ posed_input s
input_short_is s h = input_as s false (le-ltb most_bytes (length s) h)

-- what a program reads of an input poses what the whole input does
pub posed_enough : (s : List ℕ) → posed_input (take input_room s) ≡ posed_input s
unfolding posed_input
posed_enough s = as_cond (take input_room s) ∙ read_enough (refused 1) posed_file s ∙ sym (as_cond s)
  where
    by : (b : Bool) (o : Answer ProblemFile) → refuse 1 b o ≡ cond b (refused 1) o
    by true o = refl
    by false o = refl

    as_cond : (t : List ℕ) → refuse 1 (ltb most_bytes (length t)) (posed_file t) ≡ cond (ltb most_bytes (length t)) (refused 1) (posed_file t)
    as_cond t = by (ltb most_bytes (length t)) (posed_file t)

module _ (a : Purpose) (s gs ts cs g t c : List ℕ) where
  pub input_long : most_bytes < length s → g ≡ zeros gs → t ≡ zeros ts → c ≡ zeros cs
      → Final (input_file a s (length gs) (length ts) (length cs)) (read.Refused 1) gs ts cs g t c
  unfolding input_file
  input_long h i j k =
      subst (λ (o : Answer ProblemFile). Final (follow o (settled a (length gs) (length ts) (length cs))) (read.Refused 1) gs ts cs g t c) (input_long_is s h)
      (refl, i, j, k)

  pub input_read : (x : ProblemRead) → length s ≤ most_bytes → Final (problem_file a s (length gs) (length ts) (length cs)) x gs ts cs g t c
      → Final (input_file a s (length gs) (length ts) (length cs)) x gs ts cs g t c
  unfolding input_file problem_file
  input_read x h G =
      subst (λ (o : Answer ProblemFile). Final (follow o (settled a (length gs) (length ts) (length cs))) x gs ts cs g t c) (input_short_is s h) G

-- ---- the problem posed
module _ (s cs g t : List ℕ) where
  pub posed_long : most_bytes < length s → PosesIn (posed_input s) cs g t (posed.Refused 1)
  posed_long h = record { first = g; second = t; poses = record { answer = sym (input_long_is s h); fits = tt } }

  pub posed_read : (gs ts : List ℕ) (x : PosedRead) → length s ≤ most_bytes → Poses (posed_file s) gs ts cs g t x → PosesIn (posed_input s) cs g t x
  posed_read gs ts x h P = record { first = gs; second = ts; poses = subst (λ (o : Answer ProblemFile). Poses o gs ts cs g t x) (input_short_is s h) P }

-- ---- an accepted input
module _ (s : List ℕ) (P : ProblemFile) where
  pub input_posed : posed_input s ≡ accepted P → posed_file s ≡ accepted P
  unfolding posed_input
  input_posed h = (refuse_inv 1 (ltb most_bytes (length s)) (posed_file s) P h).1

  pub input_inv : (a : Purpose) (u v w : ℕ) → input_file a s u v w ≡ accepted P → (posed_input s ≡ accepted P) × Judged a u v w P
  unfolding input_file
  input_inv a u v w e = judged_inv a u v w (posed_input s) P e

-- ---- the problem that an input poses, from the code's answer: G and T are the parts of the arrays in use
module _ (s cs g t : List ℕ) {x : PosedRead} (P : PosesIn (posed_input s) cs g t x) {shape : Shape} {k c u : ℕ} {G T : List ℕ}
    (h : x ≡ posed.Problem shape k c u) (i : G ≡ take c g) (j : T ≡ take u t) where
  abbrev pub file_of : ProblemFile
  file_of =
      let h = handed_in shape P.first P.second cs in
      problem_of shape k h.0 h.1 h.2 (problem (take c g) (take u t))

  posed_by : posed_file s ≡ accepted file_of
  posed_by = input_posed s file_of (P.poses.answer ∙ ap (seen_posing P.first P.second cs g t) h)

  pub same_parts : problem (take c g) (take u t) ≡ problem G T
  same_parts = ap₂ problem (sym i) (sym j)

  pub posed_shaped : shaped shape file_of.generators file_of.targets [] ≡ accepted file_of.problem
  posed_shaped = file_poses s file_of posed_by

  pub posed_few : Few (problem G T)
  posed_few = subst Few same_parts (shaped_few file_of.shape file_of.generators file_of.targets [] file_of.problem posed_shaped)

  -- C is the part of cs in use
  pub posed_priced : {n : ℕ} {C : List ℕ} → n ≡ handed shape.kind shape.q → C ≡ take n cs → CostsFit shape C
  posed_priced e l = subst (CostsFit shape) (sym (l ∙ ap (λ (n : ℕ). take n cs) e)) (file_priced s file_of posed_by)
