-- The steps of the reading, one after the other, in the definitions' terms.
--   listed_by, mapped_by     the refusals by their number
--   mapped_4, mapped_counted a map with too many generators, and with at most 4,095
-- Assumes nothing.
use Rattle.std.specs.Prelude.{◌≡◌, Bool, ◌||◌, cond, List, ℕ, ◌*◌, ◌≤◌, ltb, leb, Option, None, Some}
use Rattle.std.proofs.Math.Path.{refl, ap}
use Rattle.std.proofs.Common.{◌∙◌, arith, leb-true}
use Rattle.std.proofs.Math.Bool.{true, false}
use Rattle.kinds.specs.laws.Sizes.{given_some}
use Rattle.kinds.specs.Refusal.{refused, accepted, need, refuse, refused_by}
use Rattle.kinds.specs.declared.Shape.{Shape}
use Rattle.words.specs.Masks.{wide, zero_in}
use Rattle.words.specs.lists.Lists.{repeats, unlike, list_refusal, map_refusal}
use Rattle.maps.specs.Generators.{generator_forms, generator_count, count_of}
use Rattle.problems.specs.Problem.{Problem, problem, target_forms, listed, mapped}
use Rattle.kinds.specs.Limits.{most_generators}

module _ (p q r : ℕ) (gs ts others : List ℕ) where
  pub listed_by : (e : ℕ) → list_refusal p q r gs ts others ≡ e → listed p q r gs ts others ≡ refused_by e (problem gs ts)
  unfolding listed list_refusal
  listed_by e h = go (ltb most_generators q) (unlike q r gs ts) (wide p gs || (wide p ts || wide p others)) (zero_in gs || repeats gs) ∙ ap (λ (n : ℕ). refused_by n (problem gs ts)) h
    where
      go : (a b c d : Bool) → refuse 4 a (refuse 5 b (refuse 6 c (refuse 7 d (accepted (problem gs ts))))) ≡ refused_by (cond a 4 (cond b 5 (cond c 6 (cond d 7 0)))) (problem gs ts)
      go true b c d = refl
      go false true c d = refl
      go false false true d = refl
      go false false false true = refl
      go false false false false = refl

pub mapped_by : (w : ℕ) (gs ts others : List ℕ) (P : Problem) (e : ℕ) → map_refusal w gs ts others ≡ e → refuse 5 (unlike 0 0 gs ts) (refuse 6 (wide w others) (accepted P)) ≡ refused_by e P
unfolding map_refusal
mapped_by w gs ts others P e h = go (unlike 0 0 gs ts) (wide w others) ∙ ap (λ (n : ℕ). refused_by n P) h
  where
    go : (a b : Bool) → refuse 5 a (refuse 6 b (accepted P)) ≡ refused_by (cond a 5 (cond b 6 0)) P
    go true b = refl
    go false true = refl
    go false false = refl

module _ (shape : Shape) (n m u : ℕ) (gs ts others : List ℕ) where
  pub mapped_4 : count_of n m ≡ None → mapped shape n m u gs ts others ≡ refused 4
  unfolding mapped
  mapped_4 e =
      ap (λ (o : Option ℕ). need 4 o λ c. refuse 5 (unlike 0 0 gs ts) (refuse 6 (wide (n * m) others) (accepted (problem (generator_forms n m) (target_forms shape n m u))))) e

  pub mapped_counted : (c : ℕ) → count_of n m ≡ Some c
      → mapped shape n m u gs ts others ≡ refuse 5 (unlike 0 0 gs ts) (refuse 6 (wide (n * m) others) (accepted (problem (generator_forms n m) (target_forms shape n m u))))
  unfolding mapped
  mapped_counted c e =
      ap (λ (o : Option ℕ). need 4 o λ c. refuse 5 (unlike 0 0 gs ts) (refuse 6 (wide (n * m) others) (accepted (problem (generator_forms n m) (target_forms shape n m u))))) e

pub counted : (n m c : ℕ) → count_of n m ≡ Some c → (generator_count n m ≡ c) × (c ≤ most_generators)
unfolding count_of
counted n m c e =
    let g = given_some (leb (generator_count n m) most_generators) (generator_count n m) c e in
    let h : generator_count n m ≤ most_generators = leb-true (generator_count n m) most_generators g.0 in
    let s : generator_count n m ≡ c = g.1 in
    (s, omega arith)
