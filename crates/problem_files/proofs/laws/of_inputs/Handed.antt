-- A file that is accepted hands in as many forms as its sizes say.
--   handed_lengths   generators and targets of an accepted file
--   handed_few       they are at most 4,095 and 64
-- Assumes nothing.
use Rattle.std.specs.Prelude.{ℕ, ◌≤◌, ◌≡◌, refl, List, [], Bool, true, false, cond, length}
use Rattle.std.proofs.Common.{sym, ap, ◌∙◌, arith}
use Rattle.kinds.specs.Kinds.{is_list}
use Rattle.kinds.specs.declared.Shape.{Shape}
use Rattle.kinds.specs.Limits.{most_generators, most_targets}
use Rattle.kinds.specs.Refusal.{accepted}
use Rattle.problems.specs.Problem.{Problem, shaped}
use Rattle.problems.proofs.Theorems.{shaped_few, shaped_map, shaped_list}
use Rattle.kinds.specs.Kinds.{handed}
use Rattle.problem_files.specs.posing.Posing.{ProblemFile, posed_file}
use Rattle.problem_files.proofs.laws.Accepted.{file_poses}

pub record Counted (shape : Shape) (gs ts : List ℕ) : Type 0 where
  pub generators : length gs ≡ handed shape.kind shape.q
  pub targets : length ts ≡ handed shape.kind shape.r

pub shaped_counted : (shape : Shape) (gs ts : List ℕ) (x : Problem) → shaped shape gs ts [] ≡ accepted x → Counted shape gs ts
shaped_counted shape gs ts x e = go (is_list shape.kind) refl
  where
    handed_as : (b : Bool) (c : ℕ) → is_list shape.kind ≡ b → cond b c 0 ≡ handed shape.kind c
    handed_as b c k = sym (ap (λ (b : Bool). cond b c 0) k)

    go : (b : Bool) → is_list shape.kind ≡ b → Counted shape gs ts
    go true k =
        let T = shaped_list shape gs ts [] x e k in
        record { generators = T.generators ∙ handed_as true shape.q k; targets = T.targets ∙ handed_as true shape.r k }
    go false k =
        let T = (shaped_map shape gs ts [] x e k).taken in
        record { generators = T.no_generators ∙ handed_as false shape.q k; targets = T.no_targets ∙ handed_as false shape.r k }

pub handed_lengths : (s : List ℕ) (P : ProblemFile) → posed_file s ≡ accepted P → Counted P.shape P.generators P.targets
handed_lengths s P e = shaped_counted P.shape P.generators P.targets P.problem (file_poses s P e)

-- they are few
pub handed_few : (shape : Shape) (gs ts : List ℕ) (x : Problem) → shaped shape gs ts [] ≡ accepted x → (length gs ≤ most_generators) × (length ts ≤ most_targets)
handed_few shape gs ts x e = go (is_list shape.kind) refl
  where
    go : (b : Bool) → is_list shape.kind ≡ b → (length gs ≤ most_generators) × (length ts ≤ most_targets)
    go true k =
        let T = shaped_list shape gs ts [] x e k in
        let F = shaped_few shape gs ts [] x e in (
          omega (arith, T.generators, T.few),
          omega (arith, ap (λ (y : Problem). length y.targets) T.is, F.targets),
        )
    go false k = let T = (shaped_map shape gs ts [] x e k).taken in (omega (arith, T.no_generators), omega (arith, T.no_targets))
