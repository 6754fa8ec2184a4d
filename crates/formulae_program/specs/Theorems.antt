-- The parts are all that is printed, and each is a list of formulae.
--   parts_are_all    after `start`, in a program's buffers, the parts, 0 to `part_count` − 1, one after the other are the program's text
--   input_answered   an input that is accepted is answered, with its Catalogue
--   input_refused    one that is refused when read is refused by the same number
--   entry_has_lines  no entry that is shown is refused: its rows are its basis, and its part is the lines of its formulae, in order, none missing and none twice
--                    (`FormulaeMeans`), as many as fit into 4,096 words
--   formulae_read_enough   what the program reads of an input, at most 65,537 bytes, is answered as the whole input
-- Assumes nothing.
use Prim.Native.Nat.{ℕ, zero, suc, ◌+◌, ◌<◌, ◌≤◌}
use Rattle.std.specs.Prelude.{◌≡◌, Bool, true, false, ◌||◌, length, take, drop, ltb}
use Rattle.std.proofs.Math.Path.{refl, ap, ap₂}
use Rattle.std.proofs.Common.{sym, ◌∙◌, arith, le-ltb}
use mathlib.Core.List.{List, ◌++◌, map}
use Rattle.std.proofs.Math.Seq.{take-append_seam}
use Rattle.kinds.specs.Limits.{most_generators, most_targets}
use Rattle.kinds.specs.Refusal.{Answer, refused, accepted, refuse, follow}
use Rattle.problem_files.specs.posing.Posing.{ProblemFile}
use Rattle.problem_files.specs.judging.Judged.{beyond, short, settled}
use Rattle.problem_files.proofs.laws.Accepted.{file_poses}
use Rattle.problem_files.proofs.laws.of_inputs.Handed.{shaped_counted, handed_few}
use Rattle.problem_files.proofs.laws.of_inputs.Input.{input_posed, posed_enough}
use Rattle.problem_files.specs.declared.judging.Purpose.TheVariants as purpose
use Rattle.problems.specs.Problem.{problem}
use Rattle.problems.proofs.Theorems.{Few}
use Rattle.catalogue.specs.Catalogue.{Catalogued, entry_listing, catalogue_of}
use Rattle.formulae_text.specs.lines.FormulaLines.{formula_text, left_text, formulae_text}
use Rattle.formulae_text.specs.FormulaAnswers.{formulae_answer, entry_formulae}
use Rattle.problem_files.specs.inputs.Inputs.{posed_input, input_file, input_of}
use Rattle.linear.specs.Basis.{dim}
use Rattle.linear.specs.Entry.{chosen}
use Rattle.linear.specs.Word.{word}
use Rattle.bases.specs.rows.Rows.{row_of}
use Rattle.programs.specs.meaning.Lines.{lines_of}
use Rattle.programs.specs.laws.Steps.{wide_enough}
use Rattle.programs.specs.meaning.laws.Answered.{input_poses, catalogue_accepted}
use Rattle.printing.specs.refusals.Pages.{listing_room, answer_text}
use Rattle.formulae_program.specs.declared.plan.Started.{Started}
use Rattle.formulae_program.specs.entry_parts.EntryPages.{plan_text, plan_texts}
use Rattle.formulae_program.specs.entry_parts.laws.Parts.{told_few}
use Rattle.formulae_program.specs.first_part.Listed.{PlanListed, listed_entries, listed_in, listed_file, listed_input, first_part}
use Rattle.formulae_program.specs.first_part.Starts.{plan_of, started_of, generators_held, targets_held, listing_after, Starts}
use Rattle.formulae_program.specs.first_part.laws.Start.{listed_inv}
use Rattle.formulae_program.specs.parts.Parts.{parts_text}
use Rattle.formulae_program.specs.parts.laws.Parts.{parts_refused, parts_listed}
use Rattle.formulae_program.specs.FormulaeProgram.{rows_at, entry_part, entries_part, formulae_program}
use Rattle.formulae_program.specs.laws.Shown.{EntryShown, entry_shown}
use Rattle.formulae_program.specs.laws.Lines.{formula_lines_law}
use Rattle.text.specs.Limits.{input_room, program_words}

-- ---- the parts
module _ (L : PlanListed) (F : Few L.problem.problem) (g t : List ℕ)
    (hg : take (length L.problem.problem.generators) g ≡ L.problem.problem.generators)
    (ht : take (length L.problem.problem.targets) t ≡ L.problem.problem.targets) where
  part_is : (i : ℕ) → plan_text (plan_of L) g t L.said.buffer i ≡ entry_part L i
  part_is i =
      let x = L.problem.problem in
      sym (told_few i (problem (take (length x.generators) g) (take (length x.targets) t)) (rows_at L i)
      (omega (arith, ap length ht, F.some_target)) (omega (arith, ap length ht, F.targets)))
      ∙ ap₂ (λ (a b : List ℕ). entry_formulae i (problem a b) (rows_at L i)) hg ht

  parts_are : (i n : ℕ) → plan_texts (plan_of L) g t L.said.buffer i n ≡ entries_part L i n
  unfolding plan_texts entries_part
  parts_are i zero = refl
  parts_are i (suc n) = ap₂ ◌++◌ (part_is i) (parts_are (suc i) n)

module _ (s gs ts : List ℕ) where
  said_all : (o : Answer PlanListed) → listed_input s ≡ o → (g t : List ℕ) → g ≡ generators_held o gs → t ≡ targets_held o ts
      → answer_text (follow o λ L. accepted (first_part L ++ entries_part L 0 L.said.shown)) ≡ parts_text (started_of o) g t (listing_after o listing_room)
  said_all (refused e) h g t hg ht = sym (parts_refused g t listing_room e)
  said_all (accepted L) h g t hg ht =
      let x = L.problem.problem in
      let a : take (length x.generators) g ≡ x.generators =
      ap (take (length x.generators)) hg ∙ take-append_seam x.generators (drop (length x.generators) gs) in
      let b : take (length x.targets) t ≡ x.targets = ap (take (length x.targets)) ht ∙ take-append_seam x.targets (drop (length x.targets) ts) in
      ap (first_part L ++◌) (sym (parts_are L (listed_inv s listing_room L h).few g t a b 0 L.said.shown))
      ∙ sym (parts_listed g t L.said.buffer (plan_of L))

pub parts_are_all : (s gs ts : List ℕ) (x : Started) (g t listing : List ℕ) → most_generators ≤ length gs → most_targets ≤ length ts
    → Starts s gs ts listing_room x g t listing
    → formulae_program s ≡ parts_text x g t listing
unfolding formulae_program listed_file
parts_are_all s gs ts x g t listing m n S =
    let o : listed_file s (length gs) (length ts) listing_room ≡ listed_input s =
    ap₂ (λ (a b : Bool). refuse 9 (a || b) (listed_in s listing_room)) (le-ltb (length gs) most_generators m) (le-ltb (length ts) most_targets n) in
    said_all s gs ts (listed_input s) refl g t (S.generators ∙ ap (λ (z : Answer PlanListed). generators_held z gs) o)
    (S.targets ∙ ap (λ (z : Answer PlanListed). targets_held z ts) o)
    ∙ sym (ap₂ (λ (y : Started) (l : List ℕ). parts_text y g t l) (S.said ∙ ap started_of o)
    (S.listed ∙ ap (λ (z : Answer PlanListed). listing_after z listing_room) o))

-- ---- an input
pub input_answered : (s : List ℕ) (P : ProblemFile) → input_of purpose.Catalogue s ≡ accepted P → (c : Catalogued) × (listed_input s ≡ accepted (record { problem = P; said = c }))
unfolding listed_in
input_answered s P e =
    let I = input_poses purpose.Catalogue s program_words program_words program_words P e in
    let c = catalogue_accepted P.problem P.k listing_room I.within in (
      c.0,
      ap (λ (o : Answer ProblemFile). follow o (listed_entries listing_room)) I.input
          ∙ ap (λ (o : Answer Catalogued). follow o λ d. accepted (record { problem = P; said = d })) c.1,
    )

settled_refused : (F : ProblemFile) (n : ℕ) → short F.shape program_words program_words program_words ≡ false
    → settled purpose.Catalogue program_words program_words program_words F ≡ refused n
    → listed_entries listing_room F ≡ refused n
unfolding settled catalogue_of
settled_refused F n w e = go (ltb (dim word F.problem.targets + 6) F.k) refl (sym (ap (λ (b : Bool). refuse 8 (beyond purpose.Catalogue F.k F.problem.targets) (refuse 9 b (accepted F))) w) ∙ e)
  where
    said : Bool → Answer PlanListed
    said b = follow (refuse 8 b (accepted (entry_listing F.problem F.k listing_room))) λ c. accepted (record { problem = F; said = c })

    go : (b : Bool) → ltb (dim word F.problem.targets + 6) F.k ≡ b → refuse {A = ProblemFile} 8 (ltb (dim word F.problem.targets + 6) F.k) (refuse 9 false (accepted F)) ≡ refused n
        → said (ltb (dim word F.problem.targets + 6) F.k) ≡ refused n
    go true h q = let z : 8 ≡ n = (let y : refuse {A = ProblemFile} 8 true (refuse 9 false (accepted F)) ≡ refused n = sym (ap (λ (b : Bool). refuse {A = ProblemFile} 8 b (refuse 9 false (accepted F))) h) ∙ q in cc) in ap said h ∙ ap refused z
    go false h q = absurd (let y : refuse {A = ProblemFile} 8 false (refuse 9 false (accepted F)) ≡ refused n = sym (ap (λ (b : Bool). refuse {A = ProblemFile} 8 b (refuse 9 false (accepted F))) h) ∙ q in let z : ◌≡◌ {A = ℕ} 0 1 = cc in omega arith)

-- the forms and costs that a file hands in fit 4,096 words: they are a list's own, or none
wide : (s : List ℕ) (F : ProblemFile) → posed_input s ≡ accepted F → short F.shape program_words program_words program_words ≡ false
wide s F e =
    let p = file_poses s F (input_posed s F e) in
    let C = shaped_counted F.shape F.generators F.targets F.problem p in
    let H = handed_few F.shape F.generators F.targets F.problem p in
    wide_enough F.shape (omega (arith, C.generators, H.0)) (omega (arith, C.targets, H.1))

pub input_refused : (s : List ℕ) (n : ℕ) → input_of purpose.Catalogue s ≡ refused n → listed_input s ≡ refused n
unfolding input_file listed_in
input_refused s n e = go (posed_input s) refl e
  where
    go : (o : Answer ProblemFile) → posed_input s ≡ o → follow o (settled purpose.Catalogue program_words program_words program_words) ≡ refused n
        → follow o (listed_entries listing_room) ≡ refused n
    go (refused i) h q = let z : i ≡ n = cc in ap refused z
    go (accepted F) h q = settled_refused F n (wide s F h) q

-- ---- an entry's part
module _ (L : PlanListed) where
  -- of entry i of the Catalogue, whose rows are its basis: the answer on its formulae, and its part of the text, line by line
  pub record HasLines (i : ℕ) : Type 0 where
    pub shown : EntryShown L.problem.problem L.problem.k listing_room listing_room L.said i (rows_at L i)
    pub lines : entry_part L i
        ≡ formulae_text i (length (rows_at L i)) (length L.problem.problem.targets) shown.said.listed shown.said.whole shown.said.buffer
    -- line j is formula j: its products, and the rows that recombine them; `N,more,-,-` ends them where one was left out
    pub formulae : entry_part L i
        ≡ lines_of (formula_text i) (λ es. map (row_of (chosen word L.problem.problem.generators es)) L.problem.problem.targets) 0
        (take shown.said.listed shown.means.all)
        ++ left_text i shown.said.whole

  pub entry_has_lines : (s : List ℕ) → listed_input s ≡ accepted L → (i : ℕ) → i < L.said.shown → HasLines i
  unfolding entry_formulae formulae_text
  entry_has_lines s e i h =
      let x = L.problem.problem in
      let S = entry_shown x L.problem.k listing_room listing_room L.said (listed_inv s listing_room L e).said i h in
      let printed = ap (formulae_answer i (length (rows_at L i)) (length x.targets)) S.accepted_as in
      record {
        shown = S;
        lines = printed;
        formulae =
            printed
            ∙ ap (λ (t : List ℕ). t ++ left_text i S.said.whole) (formula_lines_law x.generators x.targets (rows_at L i) listing_room S.said S.means i);
      }

-- ---- "in a program, also an input of more than 65,536 bytes"
pub formulae_read_enough : (s : List ℕ) → formulae_program (take input_room s) ≡ formulae_program s
unfolding formulae_program listed_in
formulae_read_enough s =
    ap (λ (o : Answer ProblemFile). answer_text (follow (follow o (listed_entries listing_room)) λ L. accepted (first_part L ++ entries_part L 0 L.said.shown)))
    (posed_enough s)
