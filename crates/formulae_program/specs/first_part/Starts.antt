-- What is said of an input, what the lent buffers hold then, and what is printed first.
--   plan_for shape k x c, plan_of L   == the plan of a problem with its Catalogue
--   started_of o         == the code's answer where o is that of the problem with its Catalogue: a refusal's number, or the plan
--   generators_held, targets_held o d == the buffer d after it: all 0 where it is refused, else the problem's forms from the start and the rest as it was
--   listing_after o old  == the listing after it, which held old
--   Planned shape k x gs ts old y g t listing == the same of the problem x
--   Starts s gs ts old x g t listing   == of the input s: the answer x, and the buffers g, t and listing after it, which held gs, ts and old
--   first_text x         == what is printed first of the answer x: the line of the refusal, or the first lines
-- Document 01: "A refused reading sets the whole of the buffers it would have filled to zero; any other refused call leaves its buffers unchanged."
-- Assumes nothing.
use Rattle.std.specs.Prelude.{ℕ, ◌≡◌, List, length}
use Rattle.kinds.specs.Refusal.{Answer, refused, accepted}
use Rattle.kinds.specs.declared.Shape.{Shape}
use Rattle.words.specs.Buffers.{filled, zeros}
use Rattle.problems.specs.Problem.{Problem}
use Rattle.catalogue.specs.Catalogue.{Catalogued, catalogue_of, lent_catalogue}
use Rattle.printing.specs.fields.RefusedText.{refused_text}
use Rattle.formulae_program.specs.declared.plan.Plan.{Plan}
use Rattle.formulae_program.specs.declared.plan.Started.{Started}
use Rattle.formulae_program.specs.declared.plan.Started.TheVariants as started
use Rattle.formulae_program.specs.first_part.Listed.{PlanListed, listed_file, formulae_head}

abbrev pub plan_for : Shape → ℕ → Problem → Catalogued → Plan
plan_for shape k x c =
    record {
      shape = shape;
      k = k;
      ell = c.ell;
      found = c.found;
      shown = c.shown;
      generators = length x.generators;
      targets = length x.targets;
    }

abbrev pub plan_of : PlanListed → Plan
plan_of L = plan_for L.problem.shape L.problem.k L.problem.problem L.said

abbrev pub started_of : Answer PlanListed → Started
started_of (refused e) = started.Refused e
started_of (accepted L) = started.Listed (plan_of L)

abbrev pub generators_held : Answer PlanListed → List ℕ → List ℕ
generators_held (refused e) d = zeros d
generators_held (accepted L) d = filled L.problem.problem.generators d

abbrev pub targets_held : Answer PlanListed → List ℕ → List ℕ
targets_held (refused e) d = zeros d
targets_held (accepted L) d = filled L.problem.problem.targets d

abbrev pub listing_after : Answer PlanListed → List ℕ → List ℕ
listing_after (refused e) old = old
listing_after (accepted L) old = L.said.buffer

-- ---- of a problem
abbrev pub started_for : Shape → ℕ → Problem → Answer Catalogued → Started
started_for shape k x (refused e) = started.Refused e
started_for shape k x (accepted c) = started.Listed (plan_for shape k x c)

abbrev pub forms_held : Answer Catalogued → (xs d : List ℕ) → List ℕ
forms_held (refused e) xs d = zeros d
forms_held (accepted c) xs d = filled xs d

pub record Planned (shape : Shape) (k : ℕ) (x : Problem) (gs ts old : List ℕ) (y : Started) (g t listing : List ℕ) : Type 0 where
  pub said : y ≡ started_for shape k x (catalogue_of x k old)
  pub generators : g ≡ forms_held (catalogue_of x k old) x.generators gs
  pub targets : t ≡ forms_held (catalogue_of x k old) x.targets ts
  pub listed : listing ≡ lent_catalogue (catalogue_of x k old) old

-- ---- of an input
pub record Starts (s gs ts old : List ℕ) (x : Started) (g t listing : List ℕ) : Type 0 where
  pub said : x ≡ started_of (listed_file s (length gs) (length ts) old)
  pub generators : g ≡ generators_held (listed_file s (length gs) (length ts) old) gs
  pub targets : t ≡ targets_held (listed_file s (length gs) (length ts) old) ts
  pub listed : listing ≡ listing_after (listed_file s (length gs) (length ts) old) old

abbrev pub first_text : Started → List ℕ
first_text (started.Refused e) = refused_text e
first_text (started.Listed x) = formulae_head x.shape x.k x.ell x.found x.shown
