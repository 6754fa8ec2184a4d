-- A problem that is read is not refused afterwards.
--   input_poses         the problem of an accepted input is posed by its forms, it has few generators and targets, a list has a cost of 16 bits for each
--     generator, and k is not beyond what is allowed
--   catalogue_accepted  its Catalogue is then accepted
--   rank_accepted       and its Rank: 4,096 words take every formula
-- Assumes nothing.
use Rattle.std.specs.Prelude.{ℕ, ◌+◌, ◌≤◌, ◌≡◌, refl, Bool, false, not, List, [], length, ltb, eqb}
use Rattle.std.proofs.Common.{ap, ◌∙◌, arith, le-ltb}
use Rattle.kinds.specs.Refusal.{accepted, refuse}
use Rattle.words.specs.Buffers.{filled}
use Rattle.linear.specs.Basis.{dim}
use Rattle.linear.specs.Formulae as formulae
use Rattle.linear.specs.Formulae.{Fewest, fewest}
use Rattle.linear.specs.Word.{word}
use Rattle.linear.proofs.Theorems.{rank_formula}
use Rattle.linear.proofs.laws.Dimension.{dim_length}
use Rattle.choices.specs.Choice.{formula_record}
use Rattle.problems.specs.Problem.{Problem, shaped}
use Rattle.problems.proofs.Theorems.{Few, shaped_few}
use Rattle.problem_files.specs.handed_forms.ProblemLines.{CostsFit}
use Rattle.problem_files.specs.posing.Posing.{ProblemFile}
use Rattle.problem_files.specs.judging.Judged.{beyond}
use Rattle.problem_files.proofs.laws.Accepted.{file_poses, file_priced}
use Rattle.problem_files.specs.inputs.Inputs.{posed_input, input_file}
use Rattle.problem_files.proofs.laws.of_inputs.Input.{input_posed, input_inv}
use Rattle.problem_files.specs.declared.judging.Purpose.{Purpose}
use Rattle.rank.specs.fewest.Fewest.{Ranking, is, above, beyond as never, written, ranking}
use Rattle.catalogue.specs.Catalogue.{Catalogued, entry_listing, catalogue_of}
use Rattle.rank.specs.Rank.{rank_for}
use Rattle.printing.specs.refusals.Pages.{listing_room}
use Rattle.text.specs.Limits.{program_words}

pub record InputPosed (a : Purpose) (s : List ℕ) (P : ProblemFile) : Type 0 where
  pub input : posed_input s ≡ accepted P
  pub posed_as : shaped P.shape P.generators P.targets [] ≡ accepted P.problem
  pub few : Few P.problem
  pub priced : CostsFit P.shape P.costs
  pub within : beyond a P.k P.problem.targets ≡ false

pub input_poses : (a : Purpose) (s : List ℕ) (u v w : ℕ) (P : ProblemFile) → input_file a s u v w ≡ accepted P → InputPosed a s P
input_poses a s u v w P e =
    let i = input_inv s P a u v w e in
    let f = input_posed s P i.0 in
    let p = file_poses s P f in
    record {
      input = i.0;
      posed_as = p;
      few = shaped_few P.shape P.generators P.targets [] P.problem p;
      priced = file_priced s P f;
      within = i.1.within;
    }

pub catalogue_accepted : (x : Problem) (k : ℕ) (old : List ℕ) → ltb (dim word x.targets + 6) k ≡ false → (c : Catalogued) × (catalogue_of x k old ≡ accepted c)
unfolding catalogue_of
catalogue_accepted x k old h = (entry_listing x k old, ap (λ (b : Bool). refuse 8 b (accepted (entry_listing x k old))) h)

few_words : (x : Problem) (prices : List ℕ) → length x.targets ≤ 64 → (f : Fewest) → fewest word x.generators x.targets prices ≡ f
    → (a : Ranking) × (written x.generators x.targets listing_room f ≡ accepted a)
few_words x prices t (formulae.formula es) e =
    let n = (rank_formula word x.generators x.targets prices es e).near in
    let d = dim_length word x.targets in (
      is (length es) (filled (formula_record x.generators x.targets es) listing_room),
      ap (λ (b : Bool). refuse 9 b (accepted (is (length es) (filled (formula_record x.generators x.targets es) listing_room)))) (le-ltb program_words (length es + length x.targets) (omega arith)),
    )
few_words x prices t formulae.above e = (above, refl)
few_words x prices t formulae.beyond e = (never, refl)

pub rank_accepted : (x : Problem) (prices : List ℕ) (k : ℕ) → Few x → not (eqb k 0) ≡ false → (a : Ranking) × (rank_for x prices k listing_room ≡ accepted a)
unfolding rank_for ranking
rank_accepted x prices k F h =
    let w = few_words x prices F.targets (fewest word x.generators x.targets prices) refl in
    (w.0, ap (λ (b : Bool). refuse 8 b (ranking x.generators x.targets prices listing_room)) h ∙ w.1)
