-- Nothing else is accepted.
--   problem_accepted_only    a byte string that is read as a problem is the text of that problem
--   problem_accepted_sound   and that problem's forms pose it, its k is allowed, a list has a cost for each generator, and the buffers have room
-- Assumes nothing.
use Rattle.std.specs.Prelude.{ℕ, ◌≡◌, List}
use Rattle.std.proofs.Math.Path.{ap}
use Rattle.std.proofs.Common.{◌∙◌}
use Rattle.kinds.specs.Sizes.{shape_of}
use Rattle.kinds.specs.Refusal.{accepted}
use Rattle.formula_text.specs.HeadText.{file_head}
use Rattle.round_trips.specs.formulae.laws.HeadOnly.{head_only}
use Rattle.problem_files.specs.posing.Posing.{ProblemFile}
use Rattle.problem_files.proofs.laws.of_judging.Judging.{settled_is}
use Rattle.problem_files.specs.ProblemFile.{problem_file}
use Rattle.problem_files.proofs.laws.Accepted.{posed_went, file_poses, file_priced, problem_inv}
use Rattle.problem_files.specs.declared.judging.Purpose.{Purpose}
use Rattle.round_trips.specs.problems.ProblemText.{lines_text, problem_text}
use Rattle.round_trips.specs.problems.PrintThenRead.{ProblemSound}
use Rattle.round_trips.specs.problems.laws.LinesOnly.{body_only}

module _ (a : Purpose) (s : List ℕ) (u v w : ℕ) (P : ProblemFile) (taken : problem_file a s u v w ≡ accepted P) where
  pub problem_accepted_only : s ≡ problem_text P
  unfolding problem_text
  problem_accepted_only =
      let W = posed_went s P (problem_inv a s u v w P taken).0 in
      let h = W.head in
      let shape = shape_of W.kd h.p h.q h.r in
      head_only s (h, W.text) W.kd W.lines W.named
      ∙ ap (file_head shape h.k) (body_only shape W.z.0 W.z.1 W.text W.forms W.body)
      ∙ ap (λ (Q : ProblemFile). file_head Q.shape Q.k (lines_text Q.shape.kind Q.generators Q.targets Q.costs)) W.is

  pub problem_accepted_sound : ProblemSound a u v w P
  problem_accepted_sound =
      let I = problem_inv a s u v w P taken in
      record { poses = file_poses s P I.0; priced = file_priced s P I.0; settles = settled_is a u v w P I.1.within I.1.wide }
