-- What the Catalogue and Rank programs print of an input that is accepted: an answer, never a refusal, and what it means. To be read from top to bottom.
--   CatalogueAnswered, catalogue_answered   the Catalogue's text, of an answer that lists every entry, none twice
--   RankAnswered, rank_answered             Rank's text, of an answer that is the least number of products, none cheaper
--   problem_read_enough                     what either program reads of an input, at most 65,537 bytes, is answered as the whole input
-- So a program refuses exactly the inputs that are refused when read (`input_of`). The definitions: input_of (problem_files, inputs), catalogue_program, rank_program (programs), catalogue_text (catalogue_text, report),
-- rank_answer (rank_text), CatalogueMeans and RankMeans (theorems, catalogue_and_rank). Assumes nothing.
use Rattle.std.specs.Prelude.{ℕ, ◌+◌, ◌-◌, ◌*◌, ◌<◌, ◌≤◌, ◌≡◌, length, take, drop, get_or}
use Rattle.std.proofs.Common.{sym, ap, ◌∙◌, subst, arith, length-take-le, get_or-take}
use mathlib.Core.List.{List, [], ◌++◌, Memᴰ}
use Rattle.kinds.specs.Refusal.{Answer, accepted, follow}
use Rattle.linear.specs.Basis.{dim}
use Rattle.linear.specs.Entry.{space}
use Rattle.linear.specs.Word.{word}
use Rattle.linear.proofs.laws.Order.{mem_get_d, mem_map}
use Rattle.records.specs.Length.{record_length}
use Rattle.catalogue.proofs.laws.of_listing.Run.{fitting_le}
use Rattle.printing.specs.record_lines.RecordLines.{entry_text, record_lines}
use Rattle.problems.specs.Problem.{Problem, shaped}
use Rattle.problems.specs.prices.Prices.{prices}
use Rattle.problem_files.specs.handed_forms.ProblemLines.{CostsFit}
use Rattle.problem_files.specs.posing.Posing.{ProblemFile}
use Rattle.problem_files.specs.declared.judging.Purpose.{Purpose}
use Rattle.problem_files.specs.declared.judging.Purpose.TheVariants as purpose
use Rattle.catalogue.specs.Catalogue.{Catalogued}
use Rattle.theorems.specs.catalogue_and_rank.Theorems.{CatalogueMeans, RankMeans}
use Rattle.theorems.proofs.laws.of_catalogue_and_rank.Theorems.{catalogue_of_means, rank_of_means}
use Rattle.rank.specs.fewest.Fewest.{Ranking}
use Rattle.catalogue_text.specs.report.CatalogueReports.{entries_text, entry_names, counts_text, catalogue_text}
use Rattle.printing.specs.refusals.Pages.{listing_room, answer_text}
use Rattle.catalogue_text.specs.CatalogueAnswers.{catalogue_answer, catalogue_reply}
use Rattle.rank_text.specs.RankAnswers.{rank_answer, rank_reply}
use Rattle.problem_files.specs.inputs.Inputs.{input_file, input_of}
use Rattle.problem_files.proofs.laws.of_inputs.Input.{posed_enough}
use Rattle.problem_files.specs.judging.Judged.{settled}
use Rattle.programs.specs.Programs.{reply_to, problem_program, catalogue_program, rank_program}
use Rattle.programs.specs.meaning.Lines.{lines_of}
use Rattle.programs.specs.meaning.laws.Lines.{Stands, lines_are}
use Rattle.programs.specs.meaning.laws.Answered.{input_poses, catalogue_accepted, rank_accepted}
use Rattle.text.specs.Limits.{input_room, program_words}

pub record CatalogueAnswered (s : List ℕ) (P : ProblemFile) : Type 0 where
  -- the forms handed in pose the problem; its answer
  pub posed_as : shaped P.shape P.generators P.targets [] ≡ accepted P.problem
  pub said : Catalogued
  pub means : CatalogueMeans P.problem.generators P.problem.targets P.k listing_room said
  pub prints : catalogue_program s ≡ catalogue_text P.shape P.k said.ell said.found said.shown said.buffer
  -- line i under the names is entry i: its number, its extension and its basis
  pub lines : catalogue_program s
      ≡ counts_text P.shape P.k said.ell said.found said.shown ++ entry_names
      ++ lines_of entry_text (space word P.problem.generators P.problem.targets) 0 (take said.shown means.extensions)

pub record RankAnswered (s : List ℕ) (P : ProblemFile) : Type 0 where
  pub posed_as : shaped P.shape P.generators P.targets [] ≡ accepted P.problem
  -- a list hands in a cost of at most 16 bits for each generator, another kind none
  pub costs_fit : CostsFit P.shape P.costs
  pub said : Ranking
  pub means : RankMeans P.problem.generators P.problem.targets (prices P.shape P.costs) listing_room said
  pub prints : rank_program s ≡ rank_answer P.shape P.k (dim word P.problem.targets) (length P.problem.targets) (accepted said)

-- the lines of what a Catalogue's listing holds
listing_lines : (gens targets : List ℕ) (k : ℕ) (old : List ℕ) (c : Catalogued) (M : CatalogueMeans gens targets k old c)
    → entries_text (k - c.ell) k 0 c.shown c.buffer ≡ lines_of entry_text (space word gens targets) 0 (take c.shown M.extensions)
listing_lines gens targets k old c M =
    ap (λ (n : ℕ). record_lines entry_text (k - c.ell) k 0 n c.buffer) (sym count)
    ∙ lines_are (k - c.ell) k c.buffer entry_text (space word gens targets) (take c.shown M.extensions) 0 stands
  where
    few : c.shown ≤ length M.extensions
    few = subst (λ (n : ℕ). c.shown ≤ n) M.found (subst (λ (s : ℕ). s ≤ c.found) (sym M.shown) (fitting_le (record_length (dim word targets) k) c.found (length old)))

    count : length (take c.shown M.extensions) ≡ c.shown
    count = length-take-le c.shown M.extensions few

    stands : Stands (k - c.ell) k c.buffer (space word gens targets) (take c.shown M.extensions) 0
    stands j h =
        let l : j < c.shown = omega (arith, h, count) in
        let es : List ℕ = get_or M.extensions j [] in
        let g : get_or (take c.shown M.extensions) j [] ≡ es = get_or-take c.shown M.extensions j [] l in
        let m : Memᴰ es M.extensions = mem_get_d M.extensions j [] (omega (arith, l, few)) in (
          ap length g ∙ (M.shape es m).0 ∙ ap (λ (n : ℕ). k - n) (sym M.ell),
          ap (λ (x : List ℕ). length (space word gens targets x)) g ∙ ((M.all (space word gens targets es)).0 (mem_map (space word gens targets) m)).size,
          ap (λ (n : ℕ). take ((k - c.ell) + k) (drop (n * ((k - c.ell) + k)) c.buffer)) (let z : 0 + j ≡ j = omega arith in z)
              ∙ M.record_at j l ∙ ap (λ (x : List ℕ). x ++ space word gens targets x) (sym g),
        )

pub catalogue_answered : (s : List ℕ) (P : ProblemFile) → input_of purpose.Catalogue s ≡ accepted P → CatalogueAnswered s P
unfolding problem_program catalogue_reply catalogue_text
catalogue_answered s P e =
    let I = input_poses purpose.Catalogue s program_words program_words program_words P e in
    let x : Problem = P.problem in
    let c = catalogue_accepted x P.k listing_room I.within in
    let M = (catalogue_of_means x P.k listing_room c.0 c.1).1 in
    let printed =
    ap (λ (o : Answer ProblemFile). answer_text (follow o λ Q. accepted (reply_to purpose.Catalogue Q))) e ∙ ap (catalogue_answer P.shape P.k) c.1 in
    record {
      posed_as = I.posed_as;
      said = c.0;
      means = M;
      prints = printed;
      lines =
          printed
          ∙ ap (λ (t : List ℕ). counts_text P.shape P.k c.0.ell c.0.found c.0.shown ++ entry_names ++ t)
          (listing_lines x.generators x.targets P.k listing_room c.0 M);
    }

pub rank_answered : (s : List ℕ) (P : ProblemFile) → input_of purpose.Rank s ≡ accepted P → RankAnswered s P
unfolding problem_program rank_reply
rank_answered s P e =
    let I = input_poses purpose.Rank s program_words program_words program_words P e in
    let x : Problem = P.problem in
    let v : List ℕ = prices P.shape P.costs in
    let a = rank_accepted x v P.k I.few I.within in
    record {
      posed_as = I.posed_as;
      costs_fit = I.priced;
      said = a.0;
      means = (rank_of_means x v P.k listing_room a.0 a.1).1;
      prints =
          ap (λ (o : Answer ProblemFile). answer_text (follow o λ Q. accepted (reply_to purpose.Rank Q))) e
          ∙ ap (rank_answer P.shape P.k (dim word x.targets) (length x.targets)) a.1;
    }

-- "in a program, also an input of more than 65,536 bytes"
pub problem_read_enough : (a : Purpose) (s : List ℕ) → problem_program a (take input_room s) ≡ problem_program a s
unfolding problem_program input_file
problem_read_enough a s =
    ap (λ (o : Answer ProblemFile). answer_text (follow (follow o (settled a program_words program_words program_words)) λ P. accepted (reply_to a P)))
    (posed_enough s)
