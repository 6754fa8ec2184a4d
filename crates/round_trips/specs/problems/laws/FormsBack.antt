-- The lines of a problem that is not refused as numbers are read back.
--   Forms shape gs ts cs == its sizes, its counts, and that its lines give its forms and costs
--   forms_of_law             every problem that is not refused as numbers has them, where a list has a cost of 16 bits for each generator
-- Assumes nothing.
use Rattle.std.specs.Prelude.{ℕ, ◌≤◌, ◌<◌, ◌≡◌, refl, List, [], ◌∷◌, Bool, true, false, cond, length, leb, Some}
use Rattle.std.proofs.Common.{sym, ap, ◌∙◌, arith, le-leb}
use Rattle.kinds.specs.declared.Shape.{Shape}
use Rattle.kinds.specs.Kinds.{is_list}
use Rattle.kinds.specs.Sizes.{sizes}
use Rattle.kinds.specs.laws.Sizes.{given_yes, sizes_bounds, list_bits, map_few}
use Rattle.kinds.specs.Refusal.{accepted}
use Rattle.words.specs.Masks.{wide}
use Rattle.words.specs.laws.Masks.{wide_words}
use Rattle.maps.specs.Generators.{generator_count, count_of}
use Rattle.problems.specs.Problem.{Problem, shaped}
use Rattle.problems.proofs.Theorems.{IsMap, shaped_map, shaped_list}
use Rattle.problems.specs.Taken.{ListTaken}
use Rattle.problems.proofs.laws.Taken.{shaped_inv}
use Rattle.problems.proofs.laws.Laying.{list_targets}
use Rattle.problem_files.specs.handed_forms.ProblemLines.{list_lines, map_lines, body_of, CostsFit}
use Rattle.problem_files.proofs.laws.of_handed_forms.Lines.{list_taken, map_none}
use Rattle.round_trips.specs.problems.ProblemText.{list_text, lines_text}
use Rattle.round_trips.specs.problems.laws.ListBack.{list_back}
use Rattle.kinds.specs.Limits.{most_generators, cost_bits}

pub record Forms (shape : Shape) (gs ts cs : List ℕ) : Type 0 where
  pub z : ℕ × ℕ × ℕ
  pub sized : sizes shape ≡ Some z
  pub first : shape.p < 10000
  pub second : shape.q < 10000
  pub third : shape.r < 10000
  pub body : body_of shape z.0 z.1 (lines_text shape.kind gs ts cs) ≡ accepted (gs, ts, cs)

empty : (xs : List ℕ) → length xs ≡ 0 → xs ≡ []
empty [] e = refl
empty (x ∷ xs) e = absurd (omega arith)

counted : (n m : ℕ) → generator_count n m ≤ most_generators → count_of n m ≡ Some (generator_count n m)
unfolding count_of
counted n m h = given_yes (leb (generator_count n m) most_generators) (generator_count n m) (le-leb (generator_count n m) most_generators h)

-- ---- a map
map_body : (n m : ℕ) (gs ts cs : List ℕ) → generator_count n m ≤ most_generators → length gs ≡ 0 → length ts ≡ 0 → length cs ≡ 0
    → map_lines n m [] ≡ accepted (gs, ts, cs)
map_body n m gs ts cs h a b c = rw (empty gs a, empty ts b, empty cs c) (map_none n m [] (generator_count n m) (counted n m h) (omega arith))

of_map : (shape : Shape) (gs ts cs : List ℕ) (P : Problem) → is_list shape.kind ≡ false → IsMap shape gs ts [] P → length cs ≡ 0 → Forms shape gs ts cs
of_map shape gs ts cs P f M c =
    let F = map_few shape (M.n, M.m, M.u) f M.sized in
    record {
      z = (M.n, M.m, M.u);
      sized = M.sized;
      first = (let a = F.first in omega arith);
      second = (let a = F.second in omega arith);
      third = (let a = F.third in omega arith);
      body = rw f (map_body M.n M.m gs ts cs M.taken.few M.taken.no_generators M.taken.no_targets c);
    }

-- ---- a list
list_lines_law : (p q r : ℕ) (gs ts cs : List ℕ) (P : Problem) → p ≤ 64 → ListTaken p q r gs ts [] P → length cs ≡ q → wide cost_bits cs ≡ false
    → list_lines q r (list_text gs ts cs) ≡ accepted (gs, ts, cs)
list_lines_law p q r gs ts cs P h T c w =
    let back = list_back gs ts cs (T.generators ∙ sym c) (wide_words p gs h T.generators_fit) (wide_words p ts h T.targets_fit) w in
    list_taken q r (list_text gs ts cs) gs ts cs true T.few (rw (T.generators, T.targets) at back) refl

of_list : (shape : Shape) (gs ts cs : List ℕ) (P : Problem) (z : ℕ × ℕ × ℕ) → is_list shape.kind ≡ true → sizes shape ≡ Some z
    → ListTaken shape.p shape.q shape.r gs ts [] P → length cs ≡ shape.q → wide cost_bits cs ≡ false → Forms shape gs ts cs
of_list shape gs ts cs P z f s T c w =
    let b : shape.p ≤ 64 = (let e = list_bits shape z f s in let m = (sizes_bounds shape z s).fits.first_most in omega arith) in
    let t = list_targets shape z f s in
    record {
      z = z;
      sized = s;
      first = omega arith;
      second = (let m = T.few in omega arith);
      third = (let m = t.1 in omega arith);
      body = rw f (list_lines_law shape.p shape.q shape.r gs ts cs P b T c w);
    }

pub forms_of_law : (shape : Shape) (gs ts cs : List ℕ) (P : Problem) → shaped shape gs ts [] ≡ accepted P → CostsFit shape cs → Forms shape gs ts cs
forms_of_law shape gs ts cs P e C = go (is_list shape.kind) refl
  where
    counted : (b : Bool) → is_list shape.kind ≡ b → length cs ≡ cond b shape.q 0
    counted b f = C.counted ∙ ap (λ (b : Bool). cond b shape.q 0) f

    go : (b : Bool) → is_list shape.kind ≡ b → Forms shape gs ts cs
    go true f =
        let K = shaped_inv shape gs ts [] P e in
        of_list shape gs ts cs P (K.n, K.m, K.u) f K.sized (shaped_list shape gs ts [] P e f) (counted true f) C.small
    go false f = of_map shape gs ts cs P f (shaped_map shape gs ts [] P e f) (counted false f)
