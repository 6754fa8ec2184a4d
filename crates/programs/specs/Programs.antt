-- What the Catalogue and Rank programs print of an input.
--   reply_on a shape k x costs         == what is printed of the problem x, whose kind and sizes these are, the costs being handed in; those only Rank looks at
--   Pricing shape costs gens          == what Rank asks of them
--   reply_to a P                       == that of a file's problem
--   problem_program a s                == all that is printed
--   catalogue_program s, rank_program s == that, by the program
-- Document 01: "The Catalogue program reads a problem on standard input." How it is read: `input_of` (problem_files, inputs). That it is answered, and what the answer means: `meaning`.
-- Assumes nothing.
use Rattle.std.specs.Prelude.{ℕ, ◌≡◌, false, List, length}
use Rattle.kinds.specs.Refusal.{accepted, follow}
use Rattle.kinds.specs.declared.Shape.{Shape}
use Rattle.kinds.specs.Limits.{cost_bits}
use Rattle.words.specs.Masks.{wide}
use Rattle.problems.specs.Problem.{Problem}
use Rattle.problems.specs.prices.Prices.{prices}
use Rattle.problem_files.specs.posing.Posing.{ProblemFile}
use Rattle.problem_files.specs.declared.judging.Purpose.{Purpose}
use Rattle.problem_files.specs.declared.judging.Purpose.TheVariants as purpose
use Rattle.problem_files.specs.inputs.Inputs.{input_of}
use Rattle.printing.specs.refusals.Pages.{answer_text}
use Rattle.catalogue_text.specs.CatalogueAnswers.{catalogue_reply}
use Rattle.rank_text.specs.RankAnswers.{rank_reply}

abbrev pub reply_on : Purpose → Shape → ℕ → Problem → List ℕ → List ℕ
reply_on purpose.Catalogue shape k x costs = catalogue_reply shape k x
reply_on purpose.Rank shape k x costs = rank_reply shape k x (prices shape costs)

-- each generator has a price of at most 16 bits
pub record Pricing (shape : Shape) (costs gens : List ℕ) : Type 0 where
  pub each : length (prices shape costs) ≡ length gens
  pub narrow : wide cost_bits (prices shape costs) ≡ false

abbrev pub reply_to : Purpose → ProblemFile → List ℕ
reply_to a P = reply_on a P.shape P.k P.problem P.costs

unfoldable pub problem_program : Purpose → List ℕ → List ℕ
problem_program a s = answer_text (follow (input_of a s) λ P. accepted (reply_to a P))

abbrev pub catalogue_program : List ℕ → List ℕ
catalogue_program s = problem_program purpose.Catalogue s

abbrev pub rank_program : List ℕ → List ℕ
rank_program s = problem_program purpose.Rank s
