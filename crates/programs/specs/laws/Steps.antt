-- The steps of a program.
--   for_purpose                     what is printed for one purpose is what is printed for an equal one
--   program-posed                   what is printed, from the problem that the input poses: 8 is the call's refusal too, and 4,096 words take any list's forms
--   posed_pricing                   each generator has a price
--   program_refused, program_said   what is printed, from the code's answer to the input
-- Assumes nothing.
use Rattle.std.specs.Prelude.{ℕ, ◌≤◌, ◌≡◌, refl, Bool, true, false, not, ◌||◌, List, [], length, take}
use Rattle.std.proofs.Common.{sym, ap₂, ◌∙◌, subst, arith, eq-eqb}
use Rattle.std.proofs.Math.Path.{ap}
use Rattle.kinds.specs.declared.Shape.{Shape}
use Rattle.kinds.specs.Refusal.{Answer, accepted, refuse, follow}
use Rattle.printing.specs.fields.RefusedText.{refused_text}
use Rattle.problems.specs.Problem.{Problem, problem}
use Rattle.kinds.specs.Kinds.{handed}
use Rattle.problems.specs.prices.Prices.{unpriced}
use Rattle.problems.proofs.laws.of_prices.Taken.{prices_each, prices_narrow}
use Rattle.problem_files.specs.handed_forms.ProblemLines.{CostsFit}
use Rattle.problem_files.specs.posing.Posing.{ProblemFile}
use Rattle.problem_files.specs.posing.Views.{seen_posing, PosingFits, PosesIn}
use Rattle.problem_files.specs.judging.Judged.{beyond, short, settled}
use Rattle.problem_files.proofs.laws.of_judging.Judging.{short_not}
use Rattle.problem_files.specs.declared.judging.Purpose.{Purpose}
use Rattle.problem_files.specs.declared.judging.Purpose.TheVariants as purpose
use Rattle.problem_files.specs.declared.posing.PosedRead.{PosedRead}
use Rattle.problem_files.specs.declared.posing.PosedRead.TheVariants as posed
use Rattle.problem_files.specs.inputs.Inputs.{posed_input, input_file}
use Rattle.problem_files.proofs.laws.of_inputs.Input.{file_of, same_parts, posed_shaped, posed_priced}
use Rattle.catalogue.specs.Catalogue.{catalogue_of}
use Rattle.catalogue_text.specs.CatalogueAnswers.{catalogue_reply}
use Rattle.rank.specs.Rank.{rank_for}
use Rattle.rank_text.specs.RankAnswers.{rank_reply}
use Rattle.kinds.specs.Limits.{most_generators, most_targets}
use Rattle.text.specs.Limits.{program_words}
use Rattle.printing.specs.refusals.Pages.{answer_text, reply_page}
use Rattle.printing.specs.pages.Printed.{page_answer, seen_printed}
use Rattle.printing.specs.fields.Written.{written_in}
use Rattle.printing.specs.declared.pages.Printed.{Printed}
use Rattle.programs.specs.Programs.{Pricing, reply_on, reply_to, problem_program}

-- of a text on a page, and that a page for a whole reply takes it
abbrev Answered : (t d : List ℕ) → Printed → List ℕ → Type 0
Answered t d x d₁ = (page_answer t d ≡ seen_printed x) × (d₁ ≡ written_in t d) × (length t ≤ reply_page)

pub for_purpose : (a b : Purpose) (s d : List ℕ) (x : Printed) (d₁ : List ℕ) → Answered (problem_program a s) d x d₁ → a ≡ b
    → Answered (problem_program b s) d x d₁
for_purpose a b s d x d₁ P e = subst (λ (c : Purpose). Answered (problem_program c s) d x d₁) e P

-- costs that fit are not refused
costs_fit : (shape : Shape) (costs : List ℕ) → CostsFit shape costs → unpriced shape costs ≡ false
unfolding unpriced
costs_fit shape costs F =
    ap₂ (λ (a b : Bool). not a || b) (eq-eqb (length costs) (handed shape.kind shape.q) F.counted) F.small

-- ---- from the problem that the input poses
-- a call refuses by 8 what the reading would
beyond_reply : (a : Purpose) (F : ProblemFile) → beyond a F.k F.problem.targets ≡ true → refused_text 8 ≡ reply_to a F
unfolding catalogue_reply rank_reply catalogue_of rank_for
beyond_reply purpose.Catalogue F e = rw e
beyond_reply purpose.Rank F e = rw e

pub wide_enough : (shape : Shape) → handed shape.kind shape.q ≤ most_generators → handed shape.kind shape.r ≤ most_targets
    → short shape program_words program_words program_words ≡ false
wide_enough shape g t = short_not shape program_words program_words program_words (omega arith) (omega arith) (omega arith)

settled_reply : (a : Purpose) (F : ProblemFile) → short F.shape program_words program_words program_words ≡ false
    → answer_text (follow (settled a program_words program_words program_words F) λ P. accepted (reply_to a P)) ≡ reply_to a F
unfolding settled
settled_reply a F h = go (beyond a F.k F.problem.targets) refl
  where
    said : Bool → Bool → List ℕ
    said b d = answer_text (follow (refuse 8 b (refuse 9 d (accepted F))) λ P. accepted (reply_to a P))

    go : (b : Bool) → beyond a F.k F.problem.targets ≡ b → said b (short F.shape program_words program_words program_words) ≡ reply_to a F
    go true e = beyond_reply a F e
    go false e = ap (said false) h

module _ (a : Purpose) (s cs g t : List ℕ) {x : PosedRead} (P : PosesIn (posed_input s) cs g t x) where
  abbrev seen : PosedRead → Answer ProblemFile
  seen y = seen_posing P.first P.second cs g t y

  program_is : (y : PosedRead) → x ≡ y
      → problem_program a s ≡ answer_text (follow (follow (seen y) (settled a program_words program_words program_words)) λ F. accepted (reply_to a F))
  unfolding problem_program input_file
  program_is y h =
      ap (λ (o : Answer ProblemFile). answer_text (follow (follow o (settled a program_words program_words program_words)) λ F. accepted (reply_to a F)))
      (P.poses.answer ∙ ap seen h)

  pub program_refused : {e : ℕ} (n : ℕ) (d : List ℕ) → x ≡ posed.Refused e → (take n d ≡ refused_text e) × (n ≤ 32) → (take n d ≡ problem_program a s) × (n ≤ reply_page)
  program_refused {e} n d h Q = (Q.0 ∙ sym (program_is (posed.Refused e) h), (let b = Q.1 in omega arith))

  module _ {shape : Shape} {k c u : ℕ} {G T : List ℕ} (h : x ≡ posed.Problem shape k c u) (i : G ≡ take c g) (j : T ≡ take u t) {n : ℕ} {C : List ℕ}
      (q : n ≡ handed shape.kind shape.q) (l : C ≡ take n cs) where
    abbrev F : ProblemFile
    F = file_of s cs g t P h i j

    -- each generator has a price
    pub posed_pricing : Pricing shape C G
    posed_pricing =
        let e = posed_shaped s cs g t P h i j in
        let f = costs_fit shape C (posed_priced s cs g t P h i j q l) in
        record {
          each = prices_each shape F.generators F.targets [] C F.problem e f ∙ ap length (sym i);
          narrow = prices_narrow shape F.generators F.targets [] C F.problem e f;
        }

    pub program_said : (n : ℕ) (d : List ℕ) → (take n d ≡ reply_on a shape k (problem G T) C) × (n ≤ reply_page)
        → (take n d ≡ problem_program a s) × (n ≤ reply_page)
    program_said n d Q =
        let fits = subst PosingFits h P.poses.fits in
        let w = wide_enough shape fits.few_generators fits.few_targets in
        let same = ap₂ (reply_on a shape k) (sym (same_parts s cs g t P h i j)) (l ∙ ap (λ (n : ℕ). take n cs) q) in
        (Q.0 ∙ same ∙ sym (program_is (posed.Problem shape k c u) h ∙ settled_reply a F w), Q.1)
