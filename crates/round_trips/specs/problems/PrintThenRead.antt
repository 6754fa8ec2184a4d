-- What is printed is read back.
--   ProblemSound a u v w P == the forms of P pose its problem, a list has a cost of at most 65,535 for each generator and a map none, and neither 8 nor 9
--     applies where a is asked and buffers of u, v and w words are lent
--   problem_sound          such is every problem whose forms pose it, with as many costs as generators handed in, of 16 bits each, a k that is allowed for
--     what is asked and buffers with room for its forms and costs
--   problem_then_read      reading the text of such a problem gives the problem back
-- Assumes nothing.
use Prim.Native.Nat.{ℕ, ◌+◌, ◌≤◌, ◌<◌}
use Rattle.std.specs.Prelude.{◌≡◌, false, length, eqb}
use Rattle.std.proofs.Math.Path.{refl, ap}
use Rattle.std.proofs.Common.{◌∙◌, arith, ltb-false, eqb-true}
use mathlib.Core.List.{List, []}
use Rattle.std.proofs.lemmas.Bool.{not-false}
use Rattle.kinds.specs.Limits.{cost_bits}
use Rattle.linear.specs.Basis.{dim}
use Rattle.linear.specs.Word.{word}
use Rattle.linear.proofs.laws.Dimension.{dim_length}
use Rattle.kinds.specs.Refusal.{Answer, accepted, follow}
use Rattle.words.specs.Masks.{wide}
use Rattle.problems.specs.Problem.{Problem, shaped}
use Rattle.problems.proofs.Theorems.{shaped_few}
use Rattle.round_trips.specs.formulae.laws.HeadBack.{head_back}
use Rattle.kinds.specs.Kinds.{handed}
use Rattle.problem_files.specs.handed_forms.ProblemLines.{CostsFit}
use Rattle.problem_files.specs.posing.Posing.{ProblemFile, problem_of, posed_lines, posed_file}
use Rattle.problem_files.proofs.laws.of_posing.Steps.{file_is}
use Rattle.problem_files.specs.judging.Judged.{beyond, settled}
use Rattle.problem_files.proofs.laws.of_judging.Judging.{short_not, settled_is, settled_inv}
use Rattle.problem_files.proofs.laws.of_inputs.Handed.{shaped_counted}
use Rattle.problem_files.specs.ProblemFile.{problem_file}
use Rattle.problem_files.specs.declared.judging.Purpose.{Purpose}
use Rattle.problem_files.specs.declared.judging.Purpose.TheVariants as purpose
use Rattle.round_trips.specs.problems.ProblemText.{lines_text, problem_text}
use Rattle.round_trips.specs.problems.laws.FormsBack.{Forms, forms_of_law}

pub record ProblemSound (a : Purpose) (u v w : ℕ) (P : ProblemFile) : Type 0 where
  pub poses : shaped P.shape P.generators P.targets [] ≡ accepted P.problem
  pub priced : CostsFit P.shape P.costs
  pub settles : settled a u v w P ≡ accepted P

pub problem_sound : (a : Purpose) (u v w : ℕ) (P : ProblemFile) → shaped P.shape P.generators P.targets [] ≡ accepted P.problem
    → length P.costs ≡ length P.generators → wide cost_bits P.costs ≡ false → beyond a P.k P.problem.targets ≡ false
    → length P.generators ≤ u → length P.targets ≤ v → length P.costs ≤ w → ProblemSound a u v w P
problem_sound a u v w P e l s h hg ht hc =
    let C = shaped_counted P.shape P.generators P.targets P.problem e in
    let q = handed P.shape.kind P.shape.q in
    let r = handed P.shape.kind P.shape.r in
    let g : q ≤ u = (let c = C.generators in omega (arith, c, hg)) in
    let t : r ≤ v = (let c = C.targets in omega (arith, c, ht)) in
    let n = l ∙ C.generators in
    let c : q ≤ w = omega (arith, n, hc) in
    record { poses = e; priced = record { counted = n; small = s }; settles = settled_is a u v w P h (short_not P.shape u v w g t c) }

-- an allowed k has few digits
few_count : (a : Purpose) (k : ℕ) (ts : List ℕ) → beyond a k ts ≡ false → length ts ≤ 64 → k < 10000
few_count purpose.Catalogue k ts e h = omega (arith, ltb-false (dim word ts + 6) k e, dim_length word ts)
few_count purpose.Rank k ts e h = omega (arith, eqb-true k 0 (not-false (eqb k 0) e))

module _ (a : Purpose) (u v w : ℕ) (P : ProblemFile) (S : ProblemSound a u v w P) where
  F : Forms P.shape P.generators P.targets P.costs
  F = forms_of_law P.shape P.generators P.targets P.costs P.problem S.poses S.priced

  abbrev lines : List ℕ
  lines = lines_text P.shape.kind P.generators P.targets P.costs

  few : P.k < 10000
  few =
      few_count a P.k P.problem.targets (settled_inv a u v w P P S.settles).0
      (shaped_few P.shape P.generators P.targets [] P.problem S.poses).targets

  lines_back : posed_lines P.shape P.k F.z.0 F.z.1 lines ≡ accepted P
  unfolding posed_lines
  lines_back =
      let one : List ℕ × List ℕ × List ℕ → Problem → Answer ProblemFile = λ f Q. accepted (problem_of P.shape P.k f.0 f.1 f.2 Q) in
      ap (λ (o : Answer (List ℕ × List ℕ × List ℕ)). follow o λ f. follow (shaped P.shape f.0 f.1 []) (one f)) F.body
      ∙ ap (λ (o : Answer Problem). follow o (one (P.generators, P.targets, P.costs))) S.poses

  posed_back : posed_file (problem_text P) ≡ accepted P
  unfolding problem_text
  posed_back =
      file_is _ _ lines (head_back P.shape P.k lines F.first F.second F.third few) P.shape.kind refl F.z.0 F.z.1 F.z.2
      F.sized
      ∙ lines_back

  pub problem_then_read : problem_file a (problem_text P) u v w ≡ accepted P
  unfolding problem_file
  problem_then_read = ap (λ (o : Answer ProblemFile). follow o (settled a u v w)) posed_back ∙ S.settles
